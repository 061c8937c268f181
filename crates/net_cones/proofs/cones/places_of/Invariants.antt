use Rattle.std.proofs.Common.{◌≡◌, ◌++◌, drop}
use Rattle.net_cones.specs.Cones.{marked_from, marked}
use Rattle.net_cones.proofs.cones.places_of.Given as goal

-- the places so far and those that are marked from here on are all
abbrev pub invariant-loop-place : goal.invariant-loop-place
invariant-loop-place l = l.places.items ++ marked_from l.place (drop l.place l.marks) ≡ marked l.marks
