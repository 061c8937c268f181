use Rattle.std.proofs.Common.{ℕ, ◌<◌}
use Rattle.structure_audit.specs.StructureReason.{SharesAt}
use Rattle.structure_audit.proofs.shared.first_shared.Given as goal

abbrev pub invariant-loop-group : goal.invariant-loop-group
invariant-loop-group l = (group a b : ℕ) → group < l.group → SharesAt l.net.circuit l.plan group a b → ⊥
