use Rattle.std.proofs.Common.{◌≡◌, ℕ, ◌<◌, List, map, length, slice_index, All}
use Rattle.std.specs.List.{range_with_len}
use Rattle.diagrams.specs.Cofactors.{Function}
use Rattle.diagrams.specs.Building.{AreMade, StandsFor}
use Rattle.cover_diagrams.specs.Covering.{Grows, StandForPins}
use Rattle.circuit_diagrams.specs.Steps.{AreKept}
use Rattle.wide_diagrams.specs.Wide.{difference_at}
use Rattle.wide_diagrams.proofs.differences.difference_rows.Given as goal

abbrev pub invariant-loop-k : goal.invariant-loop-k
invariant-loop-k l = record {
  sized : length l.rows ≡ length l.fn.rows;
  rows : All (λ row. row < length l.diagrams.rows) l.rows;
  grown : Grows l.fn.diagrams l.diagrams;
  made : (fs gs kept : List Function) → StandForPins l.fn.diagrams fs l.firsts → StandForPins l.fn.diagrams gs l.seconds → AreKept l.fn.diagrams.inputs kept (map (difference_at fs gs) (range_with_len 0 (length l.fn.rows))) → AreMade l.fn.diagrams l.diagrams kept;
  stand : (fs gs : List Function) → StandForPins l.fn.diagrams fs l.firsts → StandForPins l.fn.diagrams gs l.seconds → (k : ℕ) → k < l.k → StandsFor l.diagrams (difference_at fs gs k) (slice_index l.rows k);
}
