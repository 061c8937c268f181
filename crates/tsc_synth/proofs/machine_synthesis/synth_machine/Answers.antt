-- The limits that were tried.
use Rattle.std.proofs.Common.{arith}
use Rattle.std.proofs.lemmas.Bool.{le-ltb}
use Rattle.machine_synth.specs.MachineBound.{machine_bound}
use Rattle.tsc_synth.proofs.WayBounds.{few_enough}
use Rattle.tsc_synth.proofs.machine_synthesis.synth_machine.Goals as goal

pub returns-in-Ok-clause-states : goal.returns-in-Ok-clause-states
returns-in-Ok-clause-states c =
    le-ltb 924 c.args.machine.now.table.states (omega (arith, c.states.ensures.states, c.if-states-gt-MOST_CODED_STATES.false))

pub returns-in-Ok-clause-fits : goal.returns-in-Ok-clause-fits
returns-in-Ok-clause-fits c =
    few_enough (machine_bound c.args.machine.now.table c.args.code) c.machine_bound-bound.result c.machine_bound-bound.ensures.bound c.if-bound-gt-MOST_COVERS.false
