use Rattle.std.proofs.Common.{◌≡◌, take}
use Rattle.twin_synth.specs.Numbered.{more_names}
use Rattle.twin_synth.specs.Pushed.{names_from}
use Rattle.twin_synth.proofs.names.push_names.Given as goal

abbrev pub invariant-loop-place : goal.invariant-loop-place
invariant-loop-place l = l.numbered ≡ more_names l.initial.numbered (names_from l.source l.first (take l.place-index l.places))
