use Rattle.std.proofs.Common.{arith, map, ◌≡◌, ◌∙◌, subst, sym, ◌++◌}
use Rattle.tsc_bits.specs.Bits.{bits_of}
use Rattle.blif_read.specs.Planned.{ArePlanned, AreWide}
use Rattle.blif_read.specs.PlanText.{bits_of_word, kind_in_plan, state_at}
use Rattle.blif_read.proofs.NextLine.{next_line}
use Rattle.blif_read.proofs.Collected.{left_next}
use Rattle.blif_read.proofs.StateBits.{wide_here}
use Rattle.blif_read.proofs.plan_states.states.Goals as goal

pub add_state-requires-clause-planned : goal.add_state-requires-clause-planned
add_state-requires-clause-planned c =
    let step = next_line c.args.section.now c.loop-place.place c.line-line.result (omega arith) c.line-line.ensures.line in
    (subst ArePlanned step c.loop-place.invariant.planned).0

pub add_state-requires-clause-sized : goal.add_state-requires-clause-sized
add_state-requires-clause-sized c =
    let step = next_line c.args.section.now c.loop-place.place c.line-line.result (omega arith) c.line-line.ensures.line in
    let here = wide_here c.args.latches _ _ _ step c.loop-place.invariant.sized in
    subst (λ w. AreWide w (state_at (kind_in_plan c.line-line.result) c.line-line.result)) (sym c.loop-place.invariant.width) here.0

pub loop-place-preserved : goal.loop-place-preserved
loop-place-preserved c =
    let step = next_line c.args.section.now c.loop-place.place c.line-line.result (omega arith) c.line-line.ensures.line in
    let here = wide_here c.args.latches _ _ _ step c.loop-place.invariant.sized in
    let added : map (bits_of c.args.latches) c.add_state.new.states.words ≡ map (bits_of c.args.latches) c.loop-place.states.words ++ map bits_of_word (state_at (kind_in_plan c.line-line.result) c.line-line.result) =
    subst (λ w. map (bits_of w) c.add_state.new.states.words ≡ map (bits_of w) c.loop-place.states.words ++ map bits_of_word (state_at (kind_in_plan c.line-line.result) c.line-line.result))
    c.loop-place.invariant.width c.in_ok-add_state.ensures.words in
    record {
      width = c.in_ok-add_state.ensures.width ∙ c.loop-place.invariant.width;
      words = left_next (λ line. state_at (kind_in_plan line) line) bits_of_word _ _ _ _ c.args.section.now _ step c.loop-place.invariant.words added;
      planned = (subst ArePlanned step c.loop-place.invariant.planned).1;
      sized = here.1;
    }
