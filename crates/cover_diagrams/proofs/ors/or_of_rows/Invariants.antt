use Rattle.std.proofs.Common.{◌<◌, List, length}
use Rattle.tsc_cover.specs.Row.{literals_of_each}
use Rattle.diagrams.specs.Cofactors.{Function}
use Rattle.diagrams.specs.Building.{AreMade, StandsFor}
use Rattle.cover_diagrams.specs.Covering.{Grows, or_so_far, StandForPins, AreRowsKept, AreRowsBuilt}
use Rattle.cover_diagrams.proofs.ors.or_of_rows.Given as goal

abbrev pub invariant-loop-j : goal.invariant-loop-j
invariant-loop-j l = record {
  inside : l.so_far < length l.diagrams.rows;
  grown : Grows l.fn.diagrams l.diagrams;
  made : (ps fs : List Function) → StandForPins l.fn.diagrams ps l.pins → AreRowsKept l.fn.diagrams.inputs fs (literals_of_each (length l.pins) l.rows) ps → AreMade l.fn.diagrams l.diagrams fs;
  stands : (ps : List Function) → StandForPins l.fn.diagrams ps l.pins → StandsFor l.diagrams (or_so_far (literals_of_each (length l.pins) l.rows) ps l.j) l.so_far;
  built : (ps : List Function) → StandForPins l.fn.diagrams ps l.pins → AreRowsBuilt l.diagrams (literals_of_each (length l.pins) l.rows) ps l.j;
}
