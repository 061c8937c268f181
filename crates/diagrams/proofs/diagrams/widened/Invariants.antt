use Rattle.std.proofs.Common.{◌<◌, length, All}
use Rattle.diagrams.specs.Decisions.{IsDiagram}
use Rattle.diagrams.specs.Building.{DiagramState, IsRight}
use Rattle.diagrams.proofs.diagrams.widened.Given as goal

abbrev pub invariant-loop-memo : goal.invariant-loop-memo
invariant-loop-memo l = record {
  some : 0 < length l.wider.items;
  right : (state : DiagramState) → IsDiagram state.inputs state.rows → All (IsRight state.inputs state.rows) l.memos → All (IsRight state.inputs state.rows) l.wider.items;
}
