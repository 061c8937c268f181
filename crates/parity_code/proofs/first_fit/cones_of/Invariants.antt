use Rattle.tsc_net.specs.PlanView.{net_numbers}
use Rattle.parity_code.specs.Cones.{AreCones}
use Rattle.std.proofs.Common.{take}
use Rattle.parity_code.proofs.first_fit.cones_of.Given as goal

abbrev pub invariant-loop-output : goal.invariant-loop-output
invariant-loop-output l = AreCones l.net.circuit (take l.output-index (net_numbers l.output-items)) l.cones
