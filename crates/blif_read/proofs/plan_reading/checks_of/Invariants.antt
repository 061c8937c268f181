use Rattle.std.proofs.Common.{◌≡◌, map, take}
use Rattle.blif_read.proofs.plan_reading.checks_of.Given as goal

abbrev pub invariant-loop-group : goal.invariant-loop-group
invariant-loop-group l = l.checks ≡ map (λ group. group.check) (take l.group-index l.groups)
