-- The rows so far, and those that are left.
use Rattle.std.proofs.Common.{drop, ◌≡◌, ◌+◌, ◌≤◌, length}
use Rattle.blif_read.specs.Rows.{rows_of}
use Rattle.blif_read.proofs.cover_rows.row_count.Given as goal

abbrev pub invariant-loop-place : goal.invariant-loop-place
invariant-loop-place l = record {
  counted : length (rows_of (drop l.from l.section)) ≡ l.count + length (rows_of (drop l.place l.section));
  low : l.count + l.from ≤ l.place;
}
