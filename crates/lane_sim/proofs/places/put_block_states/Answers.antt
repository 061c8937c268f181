use Rattle.std.proofs.Common.{ap, arith}
use Rattle.fault_secure.specs.CodePlan.{CodePlan}
use Rattle.lane_sim.proofs.PuttingLemmas.{block_state}
use Rattle.lane_sim.proofs.places.put_block_states.Goals as goal

pub returns-clause-state : goal.returns-clause-state
returns-clause-state c = λ p few below.
    let width = ap (λ (P : CodePlan). P.latches) c.plan.view_is in
    block_state c.args.plan.now c.args.points.now.inputs c.inputs.result c.args.base c.args.past c.args.block p c.loop-latch.points c.state_lanes-lanes.result c.inputs.ensures.count below
    c.requires.states (λ l h. c.loop-latch.invariant.state l (omega (arith, width)) p few) (c.state_lanes-lanes.ensures.lanes p few below)
