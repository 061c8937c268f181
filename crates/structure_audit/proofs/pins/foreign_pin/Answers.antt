use Rattle.std.proofs.Common.{◌≡◌, ◌+◌, ◌-◌, ℕ, slice_index_or, length, IsTrue, sym, ◌∙◌, ap₂, arith}
use Rattle.std.proofs.lemmas.Bool.{false≢true}
use Rattle.fault_secure.specs.Circuit.{pin_net}
use Rattle.net_cones.proofs.OrderWithin.{reads_within}
use Rattle.structure_audit.specs.Marks.{is_readable, ReadsUnmarked}
use Rattle.structure_audit.proofs.PinLemmas.{pin_more, pin_is}
use Rattle.structure_audit.proofs.pins.foreign_pin.Goals as goal

pub is_readable-requires-clause-within : goal.is_readable-requires-clause-within
is_readable-requires-clause-within c =
    let there = reads_within c.args.net.now.circuit c.args.place c.node_reads-read-items.result.now c.nets.ensures.checked.closed c.requires.place c.node_reads-read-items.ensures.reads c.loop-pin.pin (record { number = 0 }) (omega arith) in
    omega arith

pub is_readable-requires-clause-word : goal.is_readable-requires-clause-word
is_readable-requires-clause-word c =
    let there = reads_within c.args.net.now.circuit c.args.place c.node_reads-read-items.result.now c.nets.ensures.checked.closed c.requires.place c.node_reads-read-items.ensures.reads c.loop-pin.pin (record { number = 0 }) (omega arith) in
    omega arith

pub loop-pin-preserved : goal.loop-pin-preserved
loop-pin-preserved c =
    let C = c.args.net.now.circuit in
    let first : c.nets.result - c.nodes.result ≡ c.args.net.now.circuit.inputs + length c.args.net.now.circuit.latches = omega arith in
    let pin : (slice_index_or c.node_reads-read-items.result.now c.loop-pin.pin (record { number = 0 })).number ≡ pin_net c.args.net.now.circuit c.args.place c.loop-pin.pin
    = pin_is c.args.net.now.circuit c.args.place c.loop-pin.pin c.node_reads-read-items.result.now (record { number = 0 }) c.node_reads-read-items.ensures.reads (omega arith) in
    let readable : IsTrue (is_readable (c.args.net.now.circuit.inputs + length c.args.net.now.circuit.latches) c.args.checker.now c.args.word.now (pin_net c.args.net.now.circuit c.args.place c.loop-pin.pin))
    = ap₂ (λ (f n : ℕ). is_readable f c.args.checker.now c.args.word.now n) (sym first) (sym pin) ∙ sym c.is_readable.ensures.readable ∙ c.if-not-is_readable.false in
    pin_more (ReadsUnmarked c.args.net.now.circuit c.args.checker.now c.args.word.now c.args.place) c.loop-pin.pin c.loop-pin.invariant (λ h. false≢true (sym h.foreign ∙ readable))
