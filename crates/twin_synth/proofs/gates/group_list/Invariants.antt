use Rattle.std.proofs.Common.{◌≡◌, map, take}
use Rattle.twin_synth.proofs.gates.group_list.Given as goal

abbrev pub invariant-loop-places : goal.invariant-loop-places
invariant-loop-places l = map (λ group. group.places) l.groups ≡ take l.places-index l.grouping
