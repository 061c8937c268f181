use Rattle.tsc_pool.proofs.Indexes.{once_without_last}
use Rattle.tsc_pool.proofs.Holding.{those_out_given}
use Rattle.call_tests.proofs.pool.give_last.Goals as goal

pub returns-clause-those_out : goal.returns-clause-those_out
returns-clause-those_out c =
    let popped = rw c.unwrap-row.ensures at c.pop.ensures.rows in
    those_out_given c.args.pool.now c.give.new.self c.unwrap-row.result _ (rw popped at c.requires.those_out) (rw popped at c.requires.once) c.give.ensures.spent c.give.ensures.others

pub returns-clause-once : goal.returns-clause-once
returns-clause-once c =
    let popped = rw c.unwrap-row.ensures at c.pop.ensures.rows in
    once_without_last _ c.unwrap-row.result (rw popped at c.requires.once)
