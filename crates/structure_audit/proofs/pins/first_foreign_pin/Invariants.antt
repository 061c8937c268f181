use Rattle.std.proofs.Common.{ℕ, ◌<◌}
use Rattle.structure_audit.specs.Marks.{ReadsUnmarked}
use Rattle.structure_audit.proofs.pins.first_foreign_pin.Given as goal

abbrev pub invariant-loop-place : goal.invariant-loop-place
invariant-loop-place l = (r pin : ℕ) → r < l.place → ReadsUnmarked l.net.circuit l.checker l.word r pin → ⊥
