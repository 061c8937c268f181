use Rattle.std.proofs.Common.{◌≡◌, take}
use Rattle.twin_synth.specs.Numbered.{more_latches}
use Rattle.twin_synth.specs.Pushed.{latches_over}
use Rattle.twin_synth.proofs.covers.push_latches.Given as goal

abbrev pub invariant-loop-place : goal.invariant-loop-place
invariant-loop-place l = l.numbered ≡ more_latches l.initial.numbered (latches_over l.source.circuit l.numbers (take l.place-index l.places))
