use Rattle.std.proofs.Common.{◌≡◌, ℕ, ◌*◌, ◌≤◌, true, false, refl, arith, rules}
use Rattle.std.specs.Option.{is_some}
use Rattle.unheard_cells.proofs.BatchLemmas.{found_in_all, none_so_far}
use Rattle.unheard_cells.proofs.batches.first_reason.Goals as goal

pub returns-then-is_some : goal.returns-then-is_some
returns-then-is_some c =
    let past : ℕ = c.min-past.result in
    let inside : past ≤ c.args.count = omega arith in
    let some : is_some c.reason_in_batch-found.result ≡ true = search rules in
    record {
      first = found_in_all c.args.net.now.circuit c.args.plan.now c.args.count (c.loop-batch.batch * 1024) past c.reason_in_batch-found.result some inside
          c.reason_in_batch-found.ensures.first c.loop-batch.invariant.none;
    }

pub loop-batch-preserved : goal.loop-batch-preserved
loop-batch-preserved c =
    let past : ℕ = c.min-past.result in
    let none : is_some c.reason_in_batch-found.result ≡ false = search rules in
    record {
      trial = c.reason_in_batch-found.ensures.trial;
      right = c.reason_in_batch-found.ensures.right;
      wrong = c.reason_in_batch-found.ensures.wrong;
      none = none_so_far c.args.net.now.circuit c.args.plan.now c.args.count c.loop-batch.batch (c.loop-batch.batch * 1024) past c.reason_in_batch-found.result none refl
          (λ p below inside. omega arith) c.reason_in_batch-found.ensures.first c.loop-batch.invariant.none;
    }

pub returns : goal.returns
returns c = record { first = λ p low high. c.loop-batch.invariant.none p (omega arith) high }
