use Rattle.std.proofs.Common.{◌≡◌, map, take, slice_index}
use Rattle.twin_synth.proofs.checks.nets_at.Given as goal

abbrev pub invariant-loop-place : goal.invariant-loop-place
invariant-loop-place l = l.list ≡ map (slice_index l.shown) (take l.place-index l.places)
