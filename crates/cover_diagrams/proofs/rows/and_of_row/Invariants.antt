use Rattle.std.proofs.Common.{◌<◌, List, length}
use Rattle.tsc_cover.specs.Row.{literals_of}
use Rattle.diagrams.specs.Cofactors.{Function}
use Rattle.diagrams.specs.Building.{AreMade, StandsFor}
use Rattle.cover_diagrams.specs.Covering.{Grows, and_so_far, StandForPins, IsRowKept, IsRowBuilt}
use Rattle.cover_diagrams.proofs.rows.and_of_row.Given as goal

abbrev pub invariant-loop-i : goal.invariant-loop-i
invariant-loop-i l = record {
  inside : l.so_far < length l.diagrams.rows;
  grown : Grows l.fn.diagrams l.diagrams;
  made : (ps fs : List Function) → StandForPins l.fn.diagrams ps l.pins → IsRowKept l.fn.diagrams.inputs fs (literals_of (length l.pins) l.row) ps → AreMade l.fn.diagrams l.diagrams fs;
  stands : (ps : List Function) → StandForPins l.fn.diagrams ps l.pins → StandsFor l.diagrams (and_so_far (literals_of (length l.pins) l.row) ps l.i) l.so_far;
  built : (ps : List Function) → StandForPins l.fn.diagrams ps l.pins → IsRowBuilt l.diagrams (literals_of (length l.pins) l.row) ps l.i;
}
