use Rattle.grading_laws.proofs.Latches.{latch_stems_hold, latch_pins_hold_later, latch_pins_begin_right}
use Rattle.grading_laws.proofs.laws.latches_are_held.Goals as goal

pub returns : goal.returns
returns c = record { stems = latch_stems_hold; pins = latch_pins_hold_later; first = latch_pins_begin_right }
