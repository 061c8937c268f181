use Rattle.std.proofs.Common.{◌≡◌}
use Rattle.twin_synth.specs.inner.Built.{parts_to}
use Rattle.twin_synth.proofs.building.add_latches.Given as goal

abbrev pub invariant-loop-place : goal.invariant-loop-place
invariant-loop-place l = l.parts ≡ parts_to l.numbered l.numbered.circuit.inputs l.place 0 0
