use Rattle.std.proofs.Common.{◌≡◌, take}
use Rattle.twin_synth.specs.Numbered.{more_nodes}
use Rattle.twin_synth.specs.Pushed.{nodes_over}
use Rattle.twin_synth.proofs.covers.push_covers.Given as goal

abbrev pub invariant-loop-place : goal.invariant-loop-place
invariant-loop-place l = l.numbered ≡ more_nodes l.initial.numbered (nodes_over l.source.circuit l.numbers (take l.place-index l.places))
