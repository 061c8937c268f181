use Rattle.tsc_bits.specs.Bits.{bit_worth}
use Rattle.tsc_bits.proofs.Bits.{bit_worth-xor}
use Rattle.lane_sim.proofs.LaneLemmas.{bit_of_ones}
use Rattle.node_lanes.proofs.CoverSteps.{pin_wants, pin_free}
use Rattle.node_lanes.proofs.covers.pin_word.Goals as goal

pub returns-then-care : goal.returns-then-care
returns-then-care c = record {
  bits = λ p low. pin_wants c.bit_at-care.result c.bit_at-value.result (bit_worth c.args.place c.args.row.care) (bit_worth c.args.place c.args.row.value) (bit_worth p c.args.word) (bit_worth p c.word_of.result) _
      c.if-care.true c.bit_at-care.ensures.bit c.bit_at-value.ensures.bit (c.word_of.ensures.bits p low) (bit_worth-xor p c.args.word c.word_of.result);
}

pub returns-else-care : goal.returns-else-care
returns-else-care c = record {
  bits = λ p low. pin_free c.bit_at-care.result (bit_worth c.args.place c.args.row.value) (bit_worth c.args.place c.args.row.care) (bit_worth p c.args.word) _ c.if-care.false c.bit_at-care.ensures.bit (bit_of_ones p low);
}
