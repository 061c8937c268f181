-- The spans so far, and those of the items from this one on, are the spans of all; and they end at the last step.
use Rattle.std.proofs.Common.{◌≡◌, ◌==◌, None, drop, length}
use Rattle.std.specs.List.{slice_split}
use Rattle.commands.specs.WhenWords.{rising_spans}
use Rattle.commands.proofs.WhenLemmas.{AreUpTo, spans_with}
use Rattle.commands.proofs.when_words.rising_spans.Given as goal

abbrev pub invariant-loop-item : goal.invariant-loop-item
invariant-loop-item l = record {
  reading : spans_with l.when l.last (drop (length l.yielded) (slice_split (λ b. b == 44) l.word)) ≡ rising_spans None (slice_split (λ b. b == 44) l.word);
  up_to : AreUpTo l.when l.last;
}
