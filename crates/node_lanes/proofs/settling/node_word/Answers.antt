use Rattle.std.proofs.Common.{arith}
use Rattle.tsc_bits.specs.Bits.{bit_worth}
use Rattle.lane_rows.proofs.OrderFacts.{reads_within}
use Rattle.code_lanes.specs.Lanes.{column}
use Rattle.node_lanes.proofs.SettlingSteps.{pins_of_node, node_word_is}
use Rattle.node_lanes.proofs.settling.node_word.Goals as goal

pub cover_word-requires-clause-pins : goal.cover_word-requires-clause-pins
cover_word-requires-clause-pins c =
    pins_of_node c.args.net.now.circuit c.args.place c.node_reads.result.now c.node_cover.result.now c.nets-nets.ensures.checked.closed c.requires.place c.node_reads.ensures.reads c.node_cover.ensures.cover

pub cover_word-requires-clause-within : goal.cover_word-requires-clause-within
cover_word-requires-clause-within c = λ k d h.
    (let b = reads_within c.args.net.now.circuit c.nets-nets.ensures.checked.closed c.args.place c.requires.place c.node_reads.result.now c.node_reads.ensures.reads k d h in
    let s = c.requires.sized in omega arith)

pub returns : goal.returns
returns c = record {
  bits = λ p low.
      node_word_is c.args.net.now.circuit c.args.place (column p c.args.words.now) c.node_reads.result.now c.node_cover.result.now (bit_worth p c.cover_word.result)
      c.node_reads.ensures.reads c.node_cover.ensures.cover (c.cover_word.ensures.bits p low);
}
