use Rattle.std.proofs.Common.{◌-◌, subst, arith}
use Rattle.std.specs.Prelude.{IsSome}
use Rattle.lane_rows.specs.Alive.{source_count}
use Rattle.lane_rows.specs.Rows.{row_of}
use Rattle.lane_rows.proofs.OrderFacts.{reads_within}
use Rattle.lane_sim.proofs.steps.step_of.Goals as goal

pub operation_of-requires-clause-sized : goal.operation_of-requires-clause-sized
operation_of-requires-clause-sized c = λ k d inside.
    omega (
      arith,
      reads_within c.args.net.now.circuit c.nets-nets.ensures.checked.closed c.args.place c.requires.place c.node_reads-reads.result.now c.node_reads-reads.ensures.reads k d inside,
      c.requires.sized,
    )

pub operation_of-requires-clause-some : goal.operation_of-requires-clause-some
operation_of-requires-clause-some c = λ net past below.
    let C = c.args.net.now.circuit in
    let first = source_count C in
    subst (λ n. IsSome (row_of c.args.rows.now.rows n)) (omega (arith, c.inputs.ensures.count, c.latches.ensures.count))
    (c.requires.some (net - first) (omega (arith, c.inputs.ensures.count, c.latches.ensures.count, c.requires.sized)))
