-- The last line so far, and what the lines from here on make of it.
use Rattle.std.proofs.Common.{◌≡◌, drop}
use Rattle.pla_read.specs.Refusal.{last_number, last_number_or}
use Rattle.pla_read.proofs.directives.last_number.Given as goal

abbrev pub invariant-loop-place : goal.invariant-loop-place
invariant-loop-place l = last_number l.section ≡ last_number_or l.last (drop l.place l.section)
