use Rattle.std.proofs.Common.{◌≡◌, ◌⊎◌, ℕ, true, arith}
use Rattle.std.specs.Prelude.{slice_index}
use Rattle.tsc_bits.specs.Bits.{bit_worth}
use Rattle.behaviour_audit.proofs.LaneLemmas.{columns_bound, zeros_more}
use Rattle.behaviour_audit.proofs.lanes.differing_where_bound.Goals as goal

pub loop-place-init : goal.loop-place-init
loop-place-init c = λ k few zero_ p below. absurd (omega arith)

pub loop-place-preserved : goal.loop-place-preserved
loop-place-preserved c =
    let lanes = c.args.lanes.now in
    let chosen = c.args.chosen.now in
    let free = c.args.free.now in
    zeros_more
    (λ (k p : ℕ). ((c.args.version ≡ 2) × (bit_worth k (slice_index free p) ≡ true)) ⊎ (bit_worth k (slice_index lanes p) ≡ bit_worth k (slice_index chosen p)))
    c.loop-place.wrong c.differing_bits-wrong.result c.loop-place.place c.loop-place.invariant c.differing_bits-wrong.ensures.bound

pub returns : goal.returns
returns c = record {
  bound = λ k few zero_. columns_bound c.args.version k c.args.lanes.now c.args.chosen.now c.args.free.now (λ p inside. c.loop-place.invariant k few zero_ p (omega arith));
}
