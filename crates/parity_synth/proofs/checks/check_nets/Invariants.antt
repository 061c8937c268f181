use Rattle.std.proofs.Common.{◌≡◌, ◌++◌, map, drop}
use Rattle.tsc_net.specs.PlanView.{net_numbers}
use Rattle.parity_code.specs.ParityCircuit.{check_nets, predictors_end}
use Rattle.parity_synth.specs.ParityNet.{group_cone_of}
use Rattle.parity_synth.proofs.checks.check_nets.Given as goal

-- the nets so far and those of the predictors that are left are those of all, and these end where all do
abbrev pub invariant-loop-group : goal.invariant-loop-group
invariant-loop-group l =
    (net_numbers l.nets ++ check_nets l.source.circuit.inputs (map (group_cone_of l.source.circuit) (drop l.group-index l.group-items)) l.end
    ≡ check_nets l.source.circuit.inputs (map (group_cone_of l.source.circuit) l.grouping) l.base)
    × (predictors_end (map (group_cone_of l.source.circuit) (drop l.group-index l.group-items)) l.end ≡ predictors_end (map (group_cone_of l.source.circuit) l.grouping) l.base)
