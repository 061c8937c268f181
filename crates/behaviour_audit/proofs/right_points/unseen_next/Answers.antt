use Rattle.std.proofs.Common.{ℕ, ◌+◌, List, length, ap, ◌∙◌}
use Rattle.fault_secure.specs.CodePlan.{next_of}
use Rattle.code_lanes.specs.Lanes.{column}
use Rattle.tsc_net.specs.SourceView.{logic_of}
use Rattle.code_lanes.proofs.CodeLaneLemmas.{next_column}
use Rattle.behaviour_audit.proofs.PointsLemmas.{next_answered}
use Rattle.behaviour_audit.proofs.right_points.unseen_next.Goals as goal
use Rattle.lane_sim.specs.Places.{point_at}

pub returns-clause-right : goal.returns-clause-right
returns-clause-right c = λ k few zero_ shows.
    let M = logic_of c.args.audited.now.source.now in
    let N = c.args.audited.now.net.now.circuit in
    let P = c.args.audited.now.plan.now in
    let place : ℕ = c.args.base + k in
    let lanes = c.read_words.new.lanes in
    next_answered M N P c.requires.trial.fit place (column k lanes) (column k c.next_part.result.now) (c.read_words.ensures.words k (point_at N.inputs place) few shows.step)
    (ap (column k) c.next_part.ensures.part ∙ (next_column k (length P.checks) P.outputs c.as_slice.result.now ∙ ap (λ (l : List ℕ). next_of P (column k l)) c.as_slice.ensures.whole))
    (c.wrong_next.ensures.arrives k few zero_)
