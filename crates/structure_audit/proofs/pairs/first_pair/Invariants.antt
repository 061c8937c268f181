use Rattle.std.proofs.Common.{ℕ, ◌<◌}
use Rattle.structure_audit.specs.Lines.{SharesBit}
use Rattle.structure_audit.proofs.pairs.first_pair.Given as goal

abbrev pub invariant-loop-second : goal.invariant-loop-second
invariant-loop-second l = (a b : ℕ) → b < l.second → SharesBit l.masks l.places a b → ⊥
