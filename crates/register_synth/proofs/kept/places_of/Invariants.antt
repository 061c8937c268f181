use Rattle.register_synth.specs.inner.Marked.{AreMarked}
use Rattle.register_synth.proofs.kept.places_of.Given as goal

abbrev pub invariant-loop-place : goal.invariant-loop-place
invariant-loop-place l = AreMarked l.marks l.first l.place l.places
