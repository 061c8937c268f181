use Rattle.std.proofs.Common.{drop, ◌≡◌, map}
use Rattle.tsc_bits.specs.Bits.{bits_of}
use Rattle.blif_read.specs.PlanText.{bits_of_word, kind_in_plan, state_at, state_words}
use Rattle.blif_read.specs.Planned.{ArePlanned, AreWide}
use Rattle.blif_read.proofs.Collected.{IsLeft}
use Rattle.blif_read.proofs.plan_states.states.Given as goal

abbrev pub invariant-loop-place : goal.invariant-loop-place
invariant-loop-place l = record {
  width : l.states.width ≡ l.latches;
  words : IsLeft (λ line. state_at (kind_in_plan line) line) bits_of_word (map (bits_of l.latches) l.states.words)
      (drop l.place l.section) l.section;
  planned : ArePlanned (drop l.place l.section);
  sized : AreWide l.latches (state_words (drop l.place l.section));
}
