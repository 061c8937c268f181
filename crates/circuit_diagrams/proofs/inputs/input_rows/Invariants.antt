use Rattle.std.proofs.Common.{◌≡◌, ℕ, ◌<◌, List, map, length, slice_index, All}
use Rattle.std.specs.List.{range_with_len}
use Rattle.diagrams.specs.Cofactors.{Function}
use Rattle.diagrams.specs.Building.{input_bit, AreMade, StandsFor}
use Rattle.cover_diagrams.specs.Covering.{Grows}
use Rattle.circuit_diagrams.specs.Steps.{AreKept}
use Rattle.circuit_diagrams.proofs.inputs.input_rows.Given as goal

abbrev pub invariant-loop-input : goal.invariant-loop-input
invariant-loop-input l = record {
  sized : length l.rows ≡ length l.fn.rows;
  inside : All (λ row. row < length l.diagrams.rows) l.rows;
  grown : Grows l.fn.diagrams l.diagrams;
  made : (kept : List Function) → AreKept l.fn.diagrams.inputs kept (map input_bit (range_with_len 0 l.inputs)) → AreMade l.fn.diagrams l.diagrams kept;
  stand : (i : ℕ) → i < l.input → StandsFor l.diagrams (input_bit i) (slice_index l.rows i);
}
