-- The number of the marks so far.
use Rattle.std.proofs.Common.{◌≡◌, map, take}
use Rattle.tsc_bits.specs.Bits.{binary}
use Rattle.pla_read.specs.RowText.{says}
use Rattle.pla_read.proofs.rows.marks_of.Given as goal

abbrev pub invariant-loop-character : goal.invariant-loop-character
invariant-loop-character l = l.number ≡ binary (take l.character-index (map (says l.read l.mark) l.word))
