use Rattle.std.proofs.Common.{◌≡◌, length}
use Rattle.twin_synth.specs.inner.Built.{parts_to}
use Rattle.twin_synth.proofs.building.add_outputs.Given as goal

abbrev pub invariant-loop-place : goal.invariant-loop-place
invariant-loop-place l = l.parts ≡ parts_to l.numbered l.numbered.circuit.inputs (length l.numbered.circuit.latches) (length l.numbered.circuit.nodes) l.place
