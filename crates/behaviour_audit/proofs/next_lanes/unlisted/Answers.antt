use Rattle.std.proofs.Common.{inl, inr, sym, ◌∙◌}
use Rattle.std.proofs.lemmas.Bool.{true≢false}
use Rattle.lane_sim.proofs.LaneLemmas.{bit_of_ones}
use Rattle.behaviour_audit.proofs.LaneLemmas.{either}
use Rattle.behaviour_audit.proofs.next_lanes.unlisted.Goals as goal

pub loop-state-init : goal.loop-state-init
loop-state-init c = record { listed = λ k few zero_. absurd (true≢false (sym (bit_of_ones k few) ∙ zero_)) }

pub loop-state-preserved : goal.loop-state-preserved
loop-state-preserved c = record {
  listed = λ k few zero_. elim (either k c.loop-state.others c.other_words-others.result zero_) [
    | inl before ↦ c.loop-state.invariant.listed k few before
    | inr here ↦ (c.loop-state.state, c.other_words-others.ensures.word k few here)
  ];
}

pub returns : goal.returns
returns c = record { listed = λ k few zero_. c.loop-state.invariant.listed k few zero_ }
