use Rattle.std.proofs.Common.{◌≡◌, ◌+◌, ◌++◌, drop, length}
use Rattle.fault_secure.specs.CodePlan.{concat_places}
use Rattle.tsc_net.specs.PlanView.{net_numbers}
use Rattle.parity_code.specs.GroupChecks.{group_check_nets}
use Rattle.duplex_synth.proofs.checks.check_nets.Given as goal

-- the nets so far and those of the groups that are left are those of all, and these end where all do
abbrev pub invariant-loop-group : goal.invariant-loop-group
invariant-loop-group l =
    (net_numbers l.nets ++ group_check_nets l.inputs (drop l.group-index l.group-items) l.end ≡ group_check_nets l.inputs l.grouping l.base)
    × (l.end + length (concat_places (drop l.group-index l.group-items)) ≡ l.base + length (concat_places l.grouping))
