-- The rows so far are those of the lines so far.
use Rattle.std.proofs.Common.{take}
use Rattle.pla_read.specs.Shaped.{HasRows}
use Rattle.pla_read.proofs.rows.read_rows.Given as goal

abbrev pub invariant-loop-place : goal.invariant-loop-place
invariant-loop-place l = HasRows l.heading (take l.place l.section) l.rows
