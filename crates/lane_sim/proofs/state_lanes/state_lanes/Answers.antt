use Rattle.std.proofs.Common.{◌≡◌, ℕ, ◌+◌, ◌-◌, ◌/◌, ◌^◌, ◌≤◌, ap, ◌∙◌, arith}
use Rattle.std.proofs.Math.Pow.{shr_mono}
use Rattle.fault_secure.specs.CodePlan.{CodePlan}
use Rattle.lane_sim.proofs.PuttingLemmas.{lanes_none, lanes_more}
use Rattle.lane_sim.proofs.state_lanes.state_lanes.Goals as goal

pub loop-state-init : goal.loop-state-init
loop-state-init c = lanes_none c.args.plan.now c.args.inputs c.args.base _ (ap (λ (w : ℕ). c.args.base / w) c.width_of-width.ensures.width)

pub loop-state-preserved : goal.loop-state-preserved
loop-state-preserved c =
    let latches = c.width.ensures.width ∙ ap (λ (P : CodePlan). P.latches) c.plan.view_is in
    lanes_more c.args.plan.now c.args.inputs c.args.base c.loop-state.state c.width.result c.state_word.result c.places_of.result c.loop-state.lanes c.add_state.new.lanes latches
    c.state_word.ensures.word c.places_of.ensures.bits c.add_state.ensures.added c.loop-state.invariant

pub returns : goal.returns
returns c = record {
  lanes = λ k few inside.
      let last : ℕ = c.min-last.result - 1 in
      let up_to : (c.args.base + k) / 2 ^ c.args.inputs ≤ last / 2 ^ c.args.inputs = shr_mono c.args.inputs (omega arith) in
      let width : last / c.width_of-width.result ≡ last / 2 ^ c.args.inputs = ap (λ (w : ℕ). last / w) c.width_of-width.ensures.width in
      c.loop-state.invariant.done k few (omega arith);
}
