-- The numbers so far stand before those of the words from this one on.
use Rattle.std.proofs.Common.{◌≡◌, drop}
use Rattle.tsc_text.specs.TextLine.{the_line}
use Rattle.refutation_text.specs.RefutationLine.{numbers_of}
use Rattle.refutation_text.specs.Reading.{numbers_before}
use Rattle.refutation_text.proofs.numbers.read_numbers.Given as goal

abbrev pub invariant-loop-place : goal.invariant-loop-place
invariant-loop-place l = numbers_of (drop l.from (the_line l.lines l.line).words) ≡ numbers_before l.numbers (numbers_of (drop l.place (the_line l.lines l.line).words))
