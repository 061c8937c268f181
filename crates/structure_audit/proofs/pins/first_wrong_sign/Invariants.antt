use Rattle.std.proofs.Common.{ℕ, ◌<◌}
use Rattle.structure_audit.specs.Marks.{HasMarkedSign}
use Rattle.structure_audit.proofs.pins.first_wrong_sign.Given as goal

abbrev pub invariant-loop-place : goal.invariant-loop-place
invariant-loop-place l = (r pin : ℕ) → r < l.place → HasMarkedSign l.net.circuit l.function r pin → ⊥
