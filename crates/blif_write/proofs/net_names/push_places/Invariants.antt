use Rattle.std.proofs.Common.{◌≡◌, drop, map}
use Rattle.blif_write.specs.NamedPlan.{output_name}
use Rattle.blif_write.specs.Steps.{after_words}
use Rattle.blif_write.proofs.net_names.push_places.Given as goal

abbrev pub invariant-loop-place : goal.invariant-loop-place
invariant-loop-place l =
    after_words l.out (map (output_name l.net) (drop l.place-index l.places)) ≡ after_words l.initial.out (map (output_name l.net) l.places)
