use Rattle.std.proofs.Common.{ℕ, ◌<◌}
use Rattle.structure_audit.specs.Marks.{ReadsUnmarked}
use Rattle.structure_audit.proofs.pins.foreign_pin.Given as goal

abbrev pub invariant-loop-pin : goal.invariant-loop-pin
invariant-loop-pin l = (other : ℕ) → other < l.pin → ReadsUnmarked l.net.circuit l.checker l.word l.place other → ⊥
