-- No row so far conflicts.
use Rattle.std.proofs.Common.{◌≡◌, ℕ, ◌<◌, false}
use Rattle.kiss_read.specs.Clashes.{conflict_at, rows_in}
use Rattle.kiss_read.proofs.table.Table.least_before.Given as goal

abbrev pub invariant-loop-place : goal.invariant-loop-place
invariant-loop-place l = (k : ℕ) → k < l.place → conflict_at (rows_in l.self) l.later k ≡ false
