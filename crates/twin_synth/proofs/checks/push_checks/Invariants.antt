use Rattle.std.proofs.Common.{◌≡◌, ◌+◌, drop, length}
use Rattle.fault_secure.specs.Circuit.{nets}
use Rattle.fault_secure.specs.CodePlan.{concat_places}
use Rattle.twin_synth.specs.Numbered.{more_nodes}
use Rattle.twin_synth.specs.Checks.{checks_over}
use Rattle.twin_synth.proofs.checks.push_checks.Given as goal

-- the checks so far, and those of the groups that are left, are all
abbrev pub invariant-loop-group : goal.invariant-loop-group
invariant-loop-group l = record {
  left : more_nodes l.numbered (checks_over l.numbered l.shown (drop l.group-index l.groups)) ≡ more_nodes l.initial.numbered (checks_over l.initial.numbered l.shown l.groups);
  counted : nets l.numbered.circuit + length (concat_places (drop l.group-index l.groups)) ≡ nets l.initial.numbered.circuit + length (concat_places l.groups);
}
