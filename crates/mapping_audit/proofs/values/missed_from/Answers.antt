use Rattle.std.proofs.Common.{◌≡◌, ◌+◌, ◌<◌, length, slice_index, All, sym, ◌∙◌, ap, subst, arith}
use Rattle.tsc_bits.specs.Bits.{bit_worth}
use Rattle.fault_secure.specs.Circuit.{node_net, nets}
use Rattle.tsc_net.specs.PlanView.{net_numbers}
use Rattle.code_lanes.specs.Lanes.{column}
use Rattle.code_lanes.proofs.LaneLemmas.{same_bit, bit_of_column}
use Rattle.mapping_reading.specs.Pins.{at_of}
use Rattle.mapping_audit.proofs.Pinning.{at_is}
use Rattle.mapping_audit.proofs.Rows.{zeros_sized, pins_within, reads_within, reads_sized, given_decides, row_back}
use Rattle.mapping_audit.proofs.values.missed_from.Goals as goal

pub put_values-requires-clause-within : goal.put_values-requires-clause-within
put_values-requires-clause-within c =
    subst (λ n. All (λ pin. pin < n) c.args.pins.now) (sym (zeros_sized c.args.mapped.now.circuit c.args.words.now c.requires.zeros))
    (subst (All (λ pin. pin < nets c.args.mapped.now.circuit)) (sym c.requires.pins) (pins_within c.args.plain.now.circuit c.args.mapped.now.circuit c.args.moved.now c.args.node c.nets-nets.ensures.checked.closed c.requires.moved c.requires.node))

pub cover_word-asked-requires-clause-pins : goal.cover_word-asked-requires-clause-pins
cover_word-asked-requires-clause-pins c =
    reads_sized c.args.plain.now.circuit c.args.mapped.now.circuit c.args.moved.now c.args.node c.args.reads.now c.node_cover.result.now c.nets-nets.ensures.checked.closed c.requires.node c.requires.reads c.node_cover.ensures.cover

pub cover_word-asked-requires-clause-within : goal.cover_word-asked-requires-clause-within
cover_word-asked-requires-clause-within c = λ k d h.
    (let b = reads_within c.args.plain.now.circuit c.args.mapped.now.circuit c.args.moved.now c.args.node c.args.reads.now c.nets-nets.ensures.checked.closed c.requires.moved c.requires.node c.requires.reads k d h in
    let s = zeros_sized c.args.mapped.now.circuit c.args.words.now c.requires.zeros in
    let a = c.put_values.auto.words in omega arith)

pub clear-requires : goal.clear-requires
clear-requires c = record {
  within =
      let sized : length c.settle_words.new.words ≡ nets c.args.mapped.now.circuit = c.settle_words.auto.words ∙ c.put_values.auto.words ∙ zeros_sized c.args.mapped.now.circuit c.args.words.now c.requires.zeros in
      subst (λ n. All (λ pin. pin < n) c.args.pins.now) (sym sized)
      (subst (All (λ pin. pin < nets c.args.mapped.now.circuit)) (sym c.requires.pins) (pins_within c.args.plain.now.circuit c.args.mapped.now.circuit c.args.moved.now c.args.node c.nets-nets.ensures.checked.closed c.requires.moved c.requires.node));
}

pub returns-clause-zeros : goal.returns-clause-zeros
returns-clause-zeros c = λ p low.
    row_back c.args.plain.now.circuit c.args.mapped.now.circuit (at_of c.args.mapped.now.circuit c.args.moved.now) c.args.node c.args.gates.now c.args.pins.now (c.args.base + p)
    (column p c.args.words.now) (column p c.put_values.new.words) (column p c.settle_words.new.words) c.requires.pins (c.requires.zeros p low) (c.put_values.ensures.put p low) (c.settle_words.ensures.settled p low)
    (column p c.clear.new.words) (column p c.clear_gates.new.words) (c.clear.ensures.cleared p low) (c.clear_gates.ensures.cleared p low)

pub returns-clause-given : goal.returns-clause-given
returns-clause-given c = λ p low.
    (let within : node_net c.args.plain.now.circuit c.args.node < length c.args.moved.now = (let s = c.requires.moved.sized in let t = c.requires.node in omega arith) in
    let net = slice_index c.args.moved.now c.node_net.result.number in
    let word = slice_index c.settle_words.new.words net in
    let decides = given_decides c.args.plain.now.circuit c.args.mapped.now.circuit (at_of c.args.mapped.now.circuit c.args.moved.now) c.args.node c.args.gates.now c.args.pins.now (c.args.base + p)
    (column p c.args.words.now) (column p c.put_values.new.words) (column p c.settle_words.new.words) c.requires.pins (c.requires.zeros p low) (c.put_values.ensures.put p low) (c.settle_words.ensures.settled p low)
    net (bit_worth p word) (bit_worth p c.cover_word-asked.result) (net_numbers c.args.reads.now) c.node_cover.result.now
    (ap (slice_index c.args.moved.now) c.node_net.ensures.net ∙ at_is c.args.mapped.now.circuit c.args.moved.now (node_net c.args.plain.now.circuit c.args.node) within)
    (sym (bit_of_column p c.settle_words.new.words net)) c.requires.reads c.node_cover.ensures.cover (c.cover_word-asked.ensures.bits p low) in
    let same = same_bit p word c.cover_word-asked.result in
    (λ zero_. decides.0 (same.0 zero_), λ is. same.1 (decides.1 is)))
