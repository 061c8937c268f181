use Rattle.std.proofs.Common.{◌≡◌, slice_index_or, sym, ◌∙◌, ap, arith}
use Rattle.std.proofs.lemmas.Bool.{false≢true}
use Rattle.tsc_cover.specs.Cover.{wrong_sign}
use Rattle.fault_secure.specs.Circuit.{pin_net}
use Rattle.structure_audit.specs.Marks.{HasMarkedSign}
use Rattle.structure_audit.proofs.PinLemmas.{pin_more, pin_is}
use Rattle.structure_audit.proofs.pins.wrong_pin.Goals as goal
use Rattle.structure_audit.proofs.pins.wrong_pin.Goals.{else-read-inputs-via-then-read-inputs+else-wrong_sign, else-read-inputs-via-else-read-inputs}

pub loop-pin-preserved : goal.loop-pin-preserved
loop-pin-preserved c =
    let pin : (slice_index_or c.node_reads-read-items.result.now c.loop-pin.pin (record { number = 0 })).number ≡ pin_net c.args.net.now.circuit c.args.place c.loop-pin.pin
    = pin_is c.args.net.now.circuit c.args.place c.loop-pin.pin c.node_reads-read-items.result.now (record { number = 0 }) c.node_reads-read-items.ensures.reads (omega arith) in
    pin_more (HasMarkedSign c.args.net.now.circuit c.args.function.now c.args.place) c.loop-pin.pin c.loop-pin.invariant
    (λ h. elim c.else-read-inputs.branch [
      | else-read-inputs-via-then-read-inputs+else-wrong_sign w ↦
          false≢true (sym w.if-wrong_sign.false ∙ w.wrong_sign.ensures.sign ∙ ap (λ cover. wrong_sign cover c.loop-pin.pin) c.node_cover-cover.ensures.cover ∙ h.wrong)
      | else-read-inputs-via-else-read-inputs w ↦ (let i = h.inner in let low = w.if-read-inputs.false in absurd (omega arith))
    ])
