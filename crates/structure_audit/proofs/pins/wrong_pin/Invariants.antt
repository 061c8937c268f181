use Rattle.std.proofs.Common.{ℕ, ◌<◌}
use Rattle.structure_audit.specs.Marks.{HasMarkedSign}
use Rattle.structure_audit.proofs.pins.wrong_pin.Given as goal

abbrev pub invariant-loop-pin : goal.invariant-loop-pin
invariant-loop-pin l = (other : ℕ) → other < l.pin → HasMarkedSign l.net.circuit l.function l.place other → ⊥
