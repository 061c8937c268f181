use Rattle.std.proofs.Common.{◌≡◌, ◌-◌, ℕ, true, length, arith, ◌∙◌}
use Rattle.tsc_bits.specs.Bits.{bit_worth}
use Rattle.fault_secure.specs.Circuit.{bit}
use Rattle.code_lanes.specs.Lanes.{column}
use Rattle.code_lanes.proofs.LaneLemmas.{bit_of_column}
use Rattle.behaviour_audit.proofs.LaneLemmas.{zeros_more}
use Rattle.behaviour_audit.proofs.lanes.misfits.Goals as goal

pub loop-place-init : goal.loop-place-init
loop-place-init c = λ k few zero_ p below asked. absurd (omega arith)

pub loop-place-preserved : goal.loop-place-preserved
loop-place-preserved c =
    let lanes = c.args.lanes.now in
    let place = c.loop-place.place in
    let last = length lanes - 1 in
    zeros_more (λ (k p : ℕ). bit_worth (length lanes - 1 - p) c.args.asked ≡ true → bit (column k lanes) p ≡ bit_worth (length lanes - 1 - p) c.args.wanted) c.loop-place.wrong c.misfit-wrong.result place
    c.loop-place.invariant
    (λ k few zero_ asked.
    bit_of_column k lanes place ∙ (c.misfit-wrong.ensures.fits k few zero_ (c.bit_at.ensures.bit ∙ asked) ∙ c.bit_at-in-loop-place.ensures.bit))

pub returns : goal.returns
returns c = record { fits = λ k few zero_ p inside asked. c.loop-place.invariant k few zero_ p (omega arith) asked }
