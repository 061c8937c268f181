use Rattle.std.proofs.Common.{◌≡◌, ℕ, ◌<◌, List, length, All}
use Rattle.code_checkers.specs.Gates.{signals_of, meaning}
use Rattle.diagrams.specs.Cofactors.{Function, IsCofactorOfOne}
use Rattle.diagrams.specs.Building.{AreMade}
use Rattle.cover_diagrams.specs.Covering.{Grows, StandForPins}
use Rattle.wide_diagrams.specs.Stated.{signal_function}
use Rattle.wide_diagrams.specs.GateRows.{SignalsStand}
use Rattle.wide_diagrams.proofs.gates.gate_rows.Given as goal

abbrev pub invariant-loop-k : goal.invariant-loop-k
invariant-loop-k l = record {
  sized : length l.rows ≡ length l.fn.rows;
  inside : All (λ row. row < length l.diagrams.rows) l.rows;
  grown : Grows l.fn.diagrams l.diagrams;
  made : (ws kept : List Function) → StandForPins l.fn.diagrams ws l.word → ((k : ℕ) → k < length l.gates.gates → IsCofactorOfOne l.fn.diagrams.inputs kept (signal_function ws (meaning l.gates.gates k))) → AreMade l.fn.diagrams l.diagrams kept;
  stand : (ws : List Function) → StandForPins l.fn.diagrams ws l.word → SignalsStand l.diagrams ws (signals_of l.gates.gates) l.k l.rows;
}
