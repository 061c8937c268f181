-- The names so far, then those of the places that are left.
use Rattle.std.proofs.Common.{◌≡◌, ◌+◌, ◌++◌, drop, map}
use Rattle.tsc_net.specs.Names.{text_at}
use Rattle.tsc_net.proofs.build.ring_names.Given as goal

abbrev pub invariant-loop-place : goal.invariant-loop-place
invariant-loop-place l =
    l.texts ++ map (λ place. text_at l.names.nets (l.first_node + place)) (drop l.place-index l.places)
    ≡ map (λ place. text_at l.names.nets (l.first_node + place)) l.places
