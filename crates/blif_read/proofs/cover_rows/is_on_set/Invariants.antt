use Rattle.std.proofs.Common.{drop, ◌≡◌}
use Rattle.blif_read.specs.Rows.{rows_of}
use Rattle.blif_read.proofs.cover_rows.is_on_set.Given as goal

abbrev pub invariant-loop-place : goal.invariant-loop-place
invariant-loop-place l = rows_of (drop l.from l.section) ≡ rows_of (drop l.place l.section)
