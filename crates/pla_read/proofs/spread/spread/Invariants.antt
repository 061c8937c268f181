-- The covers of the rows so far.
use Rattle.std.proofs.Common.{map, take}
use Rattle.tsc_bits.specs.Bits.{bits_of}
use Rattle.pla_read.specs.Spread.{spread_cover, AreCovers}
use Rattle.pla_read.specs.Shaped.{row_as}
use Rattle.pla_read.proofs.spread.spread.Given as goal

abbrev pub invariant-loop-row : goal.invariant-loop-row
invariant-loop-row l =
    AreCovers 0 l.outputs (spread_cover l.mark (bits_of l.outputs l.within) l.inputs (map (row_as l.inputs l.outputs) (take l.row l.rows))) l.covers
