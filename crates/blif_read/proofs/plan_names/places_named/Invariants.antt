use Rattle.std.proofs.Common.{◌≡◌, map}
use Rattle.std.specs.List.{slice_range}
use Rattle.blif_read.specs.PlanText.{output_place}
use Rattle.blif_read.proofs.plan_names.places_named.Given as goal

abbrev pub invariant-loop-place : goal.invariant-loop-place
invariant-loop-place l = l.places ≡ map (output_place l.net) (slice_range l.line.words 1 l.place)
