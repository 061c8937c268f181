-- The words are closed where those from this one on are.
use Rattle.std.proofs.Common.{◌≡◌, drop}
use Rattle.tsc_text.specs.TextLine.{the_line}
use Rattle.refutation_text.specs.RefutationLine.{are_closed}
use Rattle.refutation_text.proofs.numbers.are_closed.Given as goal

abbrev pub invariant-loop-place : goal.invariant-loop-place
invariant-loop-place l = are_closed (drop l.from (the_line l.lines l.line).words) ≡ are_closed (drop l.place (the_line l.lines l.line).words)
