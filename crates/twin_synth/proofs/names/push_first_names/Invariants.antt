use Rattle.std.proofs.Common.{◌≡◌, take}
use Rattle.twin_synth.specs.Numbered.{more_names}
use Rattle.twin_synth.proofs.names.push_first_names.Given as goal

abbrev pub invariant-loop-net : goal.invariant-loop-net
invariant-loop-net l = l.numbered ≡ more_names l.initial.numbered (take l.net l.source.names)
