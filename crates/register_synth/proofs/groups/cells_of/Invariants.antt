use Rattle.register_synth.specs.inner.Sharing.{AreMarks}
use Rattle.register_synth.proofs.groups.cells_of.Given as goal

abbrev pub invariant-loop-place : goal.invariant-loop-place
invariant-loop-place l = AreMarks l.net.circuit l.place l.cells
