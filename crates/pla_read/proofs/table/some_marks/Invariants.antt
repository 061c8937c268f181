-- The marks of the rows so far.
use Rattle.std.proofs.Common.{◌≡◌, ℕ, ◌<◌, nat_lt, length, map, take}
use Rattle.tsc_bits.specs.Bits.{bits_of}
use Rattle.fault_secure.specs.Circuit.{bit}
use Rattle.pla_read.specs.Covers.{marked_at}
use Rattle.pla_read.specs.Shaped.{row_as}
use Rattle.pla_read.proofs.table.some_marks.Given as goal

abbrev pub invariant-loop-row : goal.invariant-loop-row
invariant-loop-row l =
    (inputs outputs place : ℕ) → place < outputs
    → bit (bits_of outputs l.some) place ≡ nat_lt 0 (length (marked_at l.mark (map (row_as inputs outputs) (take l.row l.rows)) place))
