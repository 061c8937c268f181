use Rattle.std.proofs.Common.{◌≡◌, ℕ, ◌+◌, ◌*◌, ◌<◌, false, None, sym, subst}
use Rattle.tsc_bits.specs.Bits.{bit_worth}
use Rattle.behaviour_audit.specs.Trial.{ShowsPoint, IsAnswerAt}
use Rattle.behaviour_audit.specs.declared.condition.Condition.{Condition}
use Rattle.behaviour_audit.proofs.right_points.unseen.Goals as goal
use Rattle.lane_sim.specs.Places.{point_at}

pub returns-in-WordAndOutputs-clause-right : goal.returns-in-WordAndOutputs-clause-right
returns-in-WordAndOutputs-clause-right c =
    let N = c.args.audited.now.net.now.circuit in
    subst
    (λ (condition : Condition). (k : ℕ) → k < 64 → bit_worth k c.unseen_outputs.result ≡ false
    → ShowsPoint c.args.audited.now c.args.trial.now (c.args.word * 64 + k) (point_at N.inputs (c.args.base + k)) → IsAnswerAt condition c.args.audited.now (point_at N.inputs (c.args.base + k)) None)
    (sym c.in-WordAndOutputs.is) c.unseen_outputs.ensures.right
