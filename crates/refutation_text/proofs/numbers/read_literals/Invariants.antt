-- The literals so far stand before those of the words from this one on.
use Rattle.std.proofs.Common.{◌≡◌, drop}
use Rattle.tsc_text.specs.TextLine.{the_line}
use Rattle.refutation_text.specs.RefutationLine.{front_of}
use Rattle.refutation_text.specs.Reading.{literals_before}
use Rattle.refutation_text.proofs.numbers.read_literals.Given as goal

abbrev pub invariant-loop-place : goal.invariant-loop-place
invariant-loop-place l = front_of (drop 1 (the_line l.lines l.line).words) ≡ literals_before l.literals (front_of (drop l.place (the_line l.lines l.line).words))
