use Rattle.std.proofs.Common.{◌≡◌, ◌||◌, slice_index, slice_index_or, inl, inr, sym, ◌∙◌, ap, subst, arith}
use Rattle.std.proofs.lemmas.Bool.{cases_lt}
use Rattle.std.proofs.lemmas.List.{get_or-map}
use Rattle.fault_secure.specs.Circuit.{pin_net}
use Rattle.lane_rows.proofs.OrderFacts.{reads_within}
use Rattle.tsc_net.specs.Order.{has_place}
use Rattle.tsc_net.specs.declared.ids.NetId.{NetId}
use Rattle.mapping_reading.specs.ReadMapping.{is_own, block_pins}
use Rattle.mapping_reading.specs.Pins.{at_of, IsWellAt}
use Rattle.mapping_audit.proofs.pins.open_pin.Goals as goal

pub is_well-requires-clause-net : goal.is_well-requires-clause-net
is_well-requires-clause-net c =
    reads_within c.args.mapped.now.circuit c.nets-nets.ensures.checked.closed c.args.gate c.requires.gate c.node_reads-net-items.result.now c.node_reads-net-items.ensures.reads c.loop-pin.pin (record { number = 0 })
    (let t = c.loop-pin-test.true in omega arith)

pub loop-pin-preserved : goal.loop-pin-preserved
loop-pin-preserved c = λ p low.
    elim (cases_lt p c.loop-pin.pin) [
      | inl before ↦ c.loop-pin.invariant p before
      | inr here ↦
          let is : p ≡ c.loop-pin.pin = omega arith in
          let net : (slice_index_or c.node_reads-net-items.result.now c.loop-pin.pin (record { number = 0 })).number ≡ pin_net c.args.mapped.now.circuit c.args.gate c.loop-pin.pin
          = sym (get_or-map (λ (n : NetId). n.number) c.node_reads-net-items.result.now c.loop-pin.pin (record { number = 0 }) 0 (let t = c.loop-pin-test.true in omega arith)) ∙ ap (λ list. slice_index list c.loop-pin.pin) c.node_reads-net-items.ensures.reads in
          subst (IsWellAt c.args.plain.now.circuit c.args.mapped.now.circuit (at_of c.args.mapped.now.circuit c.args.moved.now) (slice_index c.args.blocks.now) c.args.gate) (sym is)
          (ap (λ n. is_own c.args.mapped.now.circuit (slice_index c.args.blocks.now) (slice_index c.args.blocks.now c.args.gate) n || has_place (block_pins c.args.plain.now.circuit (at_of c.args.mapped.now.circuit c.args.moved.now) (slice_index c.args.blocks.now c.args.gate)) n) (sym net)
          ∙ sym c.is_well.ensures.well ∙ c.if-not-is_well.false)
    ]
