use Rattle.std.proofs.Common.{ℕ, ◌+◌, List, ap, ◌∙◌, subst}
use Rattle.fault_secure.specs.CodePlan.{CodePlan, IsCodeword, outputs_of}
use Rattle.fault_secure.specs.Logic.{AllowsOutputs, inputs_of}
use Rattle.tsc_bits.specs.Bits.{bits_of}
use Rattle.code_lanes.specs.Lanes.{column}
use Rattle.tsc_net.specs.SourceView.{logic_of}
use Rattle.code_lanes.proofs.LaneLemmas.{neither}
use Rattle.code_lanes.proofs.CodeLaneLemmas.{outputs_column}
use Rattle.behaviour_audit.proofs.PointsLemmas.{outputs_answered, source_there}
use Rattle.behaviour_audit.proofs.right_points.unseen_outputs.Goals as goal
use Rattle.lane_sim.specs.Places.{point_at}

pub returns-clause-right : goal.returns-clause-right
returns-clause-right c = λ k few zero_ shows.
    let M = logic_of c.args.audited.now.source.now in
    let N = c.args.audited.now.net.now.circuit in
    let P = c.args.audited.now.plan.now in
    let fit = c.requires.trial.fit in
    let place : ℕ = c.args.base + k in
    let lanes = c.read_words.new.lanes in
    let parts = (neither k c.no_codewords-others.result c.wrong_outputs.result).0 zero_ in
    let point = point_at (inputs_of M) place in
    outputs_answered M N P fit place (column k lanes) (column k c.outputs_part-outputs.result.now) (c.read_words.ensures.words k (point_at N.inputs place) few shows.step)
    (ap (column k) c.outputs_part-outputs.ensures.part ∙ (outputs_column k P.outputs c.as_slice-2.result.now ∙ ap (λ (l : List ℕ). outputs_of P (column k l)) c.as_slice-2.ensures.whole))
    (subst (λ (l : List ℕ). IsCodeword P (column k l)) c.as_slice.ensures.whole ((c.no_codewords-others.ensures.codewords k few).0 parts.0))
    (subst (λ (version : ℕ). AllowsOutputs M version point.state (bits_of (inputs_of M) point.input) (column k c.outputs_part-outputs.result.now)) (ap (λ (Q : CodePlan). Q.version) c.plan.view_is)
    (c.wrong_outputs.ensures.allowed k few parts.1 (source_there M N P fit place _ _ shows.source)))
