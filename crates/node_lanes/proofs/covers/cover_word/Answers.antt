use Rattle.std.proofs.Common.{not, map, length, ap, ◌∙◌}
use Rattle.tsc_bits.specs.Bits.{bit_worth}
use Rattle.tsc_bits.proofs.Bits.{bit_worth-xor}
use Rattle.fault_secure.specs.Circuit.{bit}
use Rattle.tsc_net.specs.PlanView.{net_numbers}
use Rattle.code_lanes.specs.Lanes.{column}
use Rattle.node_lanes.proofs.CoverSteps.{cover_word_is}
use Rattle.node_lanes.proofs.covers.cover_word.Goals as goal

pub returns : goal.returns
returns c = record {
  bits = λ p low.
      (bit_worth-xor p c.rows_word-some.result c.word_of.result
      ∙ cover_word_is c.args.cover.now (map (bit (column p c.args.words.now)) (net_numbers c.args.reads.now)) (length c.args.reads.now) c.rows.result.now (bit_worth p c.rows_word-some.result) (bit_worth p c.word_of.result)
      c.requires.pins c.rows.ensures.rows (c.rows_word-some.ensures.bits p low) (c.word_of.ensures.bits p low ∙ ap not c.on.ensures.on));
}
