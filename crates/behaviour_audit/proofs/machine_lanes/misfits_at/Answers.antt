use Rattle.std.proofs.Common.{sym, ap, ◌∙◌}
use Rattle.std.proofs.lemmas.Bool.{true≢false}
use Rattle.tsc_bits.specs.Bits.{bit_worth}
use Rattle.behaviour_audit.proofs.LaneLemmas.{outside}
use Rattle.behaviour_audit.proofs.machine_lanes.misfits_at.Goals as goal
use Rattle.tsc_bits.proofs.Bits.{bit_worth-zero}

pub returns-then-points-eq0 : goal.returns-then-points-eq0
returns-then-points-eq0 c = record { fits = λ k few zero_ inside. absurd (true≢false (sym inside ∙ (ap (bit_worth k) c.if-points-eq0.true ∙ bit_worth-zero k))) }

pub returns-else-points-eq0 : goal.returns-else-points-eq0
returns-else-points-eq0 c = record { fits = λ k few zero_ inside. c.misfits.ensures.fits k few (outside k c.args.points c.misfits.result zero_ inside) }
