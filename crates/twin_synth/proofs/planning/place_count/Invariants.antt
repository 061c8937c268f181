use Rattle.std.proofs.Common.{◌≡◌, ◌+◌, drop, length}
use Rattle.fault_secure.specs.CodePlan.{concat_places}
use Rattle.twin_synth.proofs.planning.place_count.Given as goal

-- the places so far, and those of the groups that are left, are all
abbrev pub invariant-loop-group : goal.invariant-loop-group
invariant-loop-group l = l.count + length (concat_places (drop l.group-index l.groups)) ≡ length (concat_places l.groups)
