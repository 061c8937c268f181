-- The least of the places so far.
use Rattle.std.proofs.Common.{take}
use Rattle.kiss_read.specs.Clashes.{conflict_at, rows_in, IsLeastIn}
use Rattle.kiss_read.proofs.table.Table.least_in.Given as goal

abbrev pub invariant-loop-place : goal.invariant-loop-place
invariant-loop-place l = IsLeastIn (conflict_at (rows_in l.self) l.later) (take l.place-index l.places) l.least
