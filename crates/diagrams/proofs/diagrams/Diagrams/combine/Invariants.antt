use Rattle.std.proofs.Common.{List}
use Rattle.diagrams.specs.Cofactors.{Function, IsCofactorOfOne}
use Rattle.diagrams.specs.Building.{combined_rows, AreMade}
use Rattle.diagrams.specs.Waiting.{IsUnderWay, work}
use Rattle.diagrams.proofs.diagrams.Diagrams.combine.Given as goal

abbrev pub invariant-loop-row : goal.invariant-loop-row
invariant-loop-row l = record {
  way : IsUnderWay l.self l.operation l.first l.second l.stack.items l.task;
  made : (fs : List Function) → IsCofactorOfOne l.fn.self.inputs fs (combined_rows l.operation l.fn.self.rows l.first l.second) → AreMade l.fn.self l.self fs;
}

abbrev pub decreases-loop-row : goal.decreases-loop-row
decreases-loop-row l = work l.self l.stack.items l.task
