use Rattle.std.proofs.Common.{◌≡◌}
use Rattle.twin_synth.specs.Numbered.{more_names}
use Rattle.twin_synth.specs.Pushed.{fresh_from}
use Rattle.twin_synth.proofs.names.push_fresh_names.Given as goal

abbrev pub invariant-loop-place : goal.invariant-loop-place
invariant-loop-place l = l.numbered ≡ more_names l.initial.numbered (fresh_from l.number l.first l.place)
