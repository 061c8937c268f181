use Rattle.std.proofs.Common.{◌≡◌, ◌+◌, ◌++◌, drop, length}
use Rattle.fault_secure.specs.CodePlan.{concat_places}
use Rattle.parity_code.specs.GroupChecks.{group_check_nets}
use Rattle.twin_synth.proofs.checks.check_nets.Given as goal

-- the nets so far and those of the groups that are left are those of all, and these end where all do
abbrev pub invariant-loop-group : goal.invariant-loop-group
invariant-loop-group l = record {
  left : l.nets ++ group_check_nets l.first (drop l.group-index l.groups) l.end ≡ group_check_nets l.first l.groups l.base;
  counted : l.end + length (concat_places (drop l.group-index l.groups)) ≡ l.base + length (concat_places l.groups);
}
