use Rattle.std.proofs.Common.{◌≡◌, map, take}
use Rattle.fault_secure.specs.CodePlan.{concat_places}
use Rattle.blif_read.proofs.plan_rules.concat_places.Given as goal

abbrev pub invariant-loop-group : goal.invariant-loop-group
invariant-loop-group l = l.places ≡ concat_places (map (λ group. group.places) (take l.group-index l.groups))
