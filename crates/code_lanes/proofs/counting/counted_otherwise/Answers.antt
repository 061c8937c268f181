use Rattle.std.proofs.Common.{◌≡◌, ◌<◌, ◌^◌, ℕ, sym, ap, ◌∙◌, arith, subst, bit_xor}
use Rattle.std.specs.Prelude.{slice_index}
use Rattle.std.proofs.lemmas.List.{length-map}
use Rattle.tsc_bits.specs.Bits.{bit_worth}
use Rattle.code_lanes.specs.Lanes.{column}
use Rattle.code_lanes.proofs.LaneLemmas.{same_bit, bit_of_column, zeros_at_first, zeros_go_on}
use Rattle.code_lanes.proofs.CountLemmas.{counted_is, counted_bit}
use Rattle.code_lanes.proofs.counting.counted_otherwise.Goals as goal

pub loop-place-init : goal.loop-place-init
loop-place-init c = λ k few. zeros_at_first (λ (p : ℕ). bit_worth k (slice_index c.args.digits.now p) ≡ bit_worth p c.args.number) k

pub loop-place-preserved : goal.loop-place-preserved
loop-place-preserved c = λ k few.
    let digits = c.args.digits.now in
    let place = c.loop-place.place in
    let same = same_bit k (slice_index digits place) c.word_of.result in
    let wanted = c.word_of.ensures.bits k few ∙ c.bit_at.ensures.bit in
    zeros_go_on (λ (p : ℕ). bit_worth k (slice_index digits p) ≡ bit_worth p c.args.number) k c.loop-place.wrong (bit_xor (slice_index digits place) c.word_of.result) place (c.loop-place.invariant k few)
    (λ zero_. same.0 zero_ ∙ wanted, λ is. same.1 (is ∙ sym wanted))

pub returns : goal.returns
returns c = record {
  counted = λ k few.
      let digits = c.args.digits.now in
      let many = length-map digits (bit_worth k) in
      let all = c.loop-place.invariant k few in (
        λ zero_.
            counted_is (column k digits) c.args.number (subst (λ (n : ℕ). c.args.number < 2 ^ n) (sym many) c.requires.fits)
            (λ p inside. bit_of_column k digits p ∙ all.0 zero_ p (omega arith)),
        λ is. all.1 (λ p below. sym (bit_of_column k digits p) ∙ (counted_bit (column k digits) p (omega arith) ∙ ap (bit_worth p) is)),
      );
}
