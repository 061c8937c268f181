use Rattle.std.proofs.Common.{ℕ, ◌<◌, slice_index}
use Rattle.structure_audit.specs.Lines.{HaveCommonBit}
use Rattle.structure_audit.proofs.pairs.partner.Given as goal

abbrev pub invariant-loop-first : goal.invariant-loop-first
invariant-loop-first l = (a : ℕ) → a < l.first → HaveCommonBit l.masks (slice_index l.places a) (slice_index l.places l.second) → ⊥
