use Rattle.std.proofs.Common.{◌≡◌}
use Rattle.twin_synth.specs.inner.Built.{named_to}
use Rattle.twin_synth.proofs.building.add_names.Given as goal

abbrev pub invariant-loop-place : goal.invariant-loop-place
invariant-loop-place l = l.parts ≡ named_to l.numbered l.place
