use Rattle.std.proofs.Common.{◌≡◌, ℕ, arith}
use Rattle.std.specs.Prelude.{slice_index, bit_xor}
use Rattle.tsc_bits.specs.Bits.{bit_worth}
use Rattle.code_lanes.proofs.LaneLemmas.{same_bit}
use Rattle.behaviour_audit.proofs.LaneLemmas.{same_columns, zeros_more}
use Rattle.behaviour_audit.proofs.lanes.differing.Goals as goal

pub loop-place-init : goal.loop-place-init
loop-place-init c = λ k few zero_ p below. absurd (omega arith)

pub loop-place-preserved : goal.loop-place-preserved
loop-place-preserved c =
    let a = c.args.lanes.now in
    let b = c.args.others.now in
    let place = c.loop-place.place in
    zeros_more (λ (k p : ℕ). bit_worth k (slice_index a p) ≡ bit_worth k (slice_index b p)) c.loop-place.wrong (bit_xor (slice_index a place) (slice_index b place)) place
    c.loop-place.invariant (λ k few zero_. (same_bit k (slice_index a place) (slice_index b place)).0 zero_)

pub returns : goal.returns
returns c = record {
  same = λ k few zero_. same_columns k c.args.lanes.now c.args.others.now c.requires.sized (λ p inside. c.loop-place.invariant k few zero_ p (omega arith));
}
