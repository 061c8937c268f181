use Rattle.std.proofs.Common.{List, ◌≡◌, ◌<◌, ℕ, slice_index, slice_index_or, length, inl, inr, sym, ◌∙◌, ap, refl, subst, arith}
use Rattle.std.proofs.lemmas.Bool.{cases_lt, true≢false}
use Rattle.std.proofs.lemmas.List.{get_or-map}
use Rattle.tsc_net.specs.PlanView.{net_numbers}
use Rattle.tsc_net.specs.declared.ids.NetId.{NetId}
use Rattle.mapping_audit.proofs.SameGates.{went_to, went_at}
use Rattle.mapping_audit.proofs.same_gate.are_moved.Goals as goal

number_at : (list : List NetId) (k : ℕ) → k < length list → slice_index (net_numbers list) k ≡ (slice_index_or list k (record { number = 0 })).number
number_at list k low = get_or-map (λ (n : NetId). n.number) list k (record { number = 0 }) 0 low

pub returns-then-moved-read : goal.returns-then-moved-read
returns-then-moved-read c =
    let pin = c.loop-pin.pin in
    let sized = c.if-reads-pins.false in
    let test = c.loop-pin-test.true in
    let read = number_at c.args.reads.now c.loop-pin.pin (omega arith) in
    let at = number_at c.args.pins.now c.loop-pin.pin (omega arith) in
    record {
      same = (λ h. absurd (true≢false (sym h)), λ are. absurd (c.if-moved-read.true (ap (slice_index c.args.moved.now) (sym read) ∙ went_at c.args.moved.now c.args.reads.now c.args.pins.now c.loop-pin.pin are (omega arith) ∙ at)));
    }

pub loop-pin-preserved : goal.loop-pin-preserved
loop-pin-preserved c = λ k low.
    let sized = c.if-reads-pins.false in
    let test = c.loop-pin-test.true in
    let read = number_at c.args.reads.now c.loop-pin.pin (omega arith) in
    let at = number_at c.args.pins.now c.loop-pin.pin (omega arith) in
    elim (cases_lt k c.loop-pin.pin) [
      | inl before ↦ c.loop-pin.invariant k before
      | inr here ↦
          let is : k ≡ c.loop-pin.pin = omega arith in
          subst (λ k. slice_index c.args.moved.now (slice_index (net_numbers c.args.reads.now) k) ≡ slice_index (net_numbers c.args.pins.now) k) (sym is)
          (ap (slice_index c.args.moved.now) read ∙ c.if-moved-read.false ∙ sym at)
    ]

pub returns : goal.returns
returns c =
    let sized = c.if-reads-pins.false in
    let test = c.loop-pin-test.false in
    record { same = (λ h. went_to c.args.moved.now c.args.reads.now c.args.pins.now (omega arith) (λ k low. c.loop-pin.invariant k (omega arith)), λ are. refl) }
