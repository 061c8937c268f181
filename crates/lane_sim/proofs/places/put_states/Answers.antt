use Rattle.std.proofs.Common.{◌<◌, ◌∙◌, arith}
use Rattle.lane_sim.proofs.PuttingLemmas.{states_more}
use Rattle.lane_sim.proofs.places.put_states.Goals as goal

pub loop-block-preserved : goal.loop-block-preserved
loop-block-preserved c =
    let block = c.loop-block.block in
    let i = c.loop-block.invariant in
    let new = c.put_block_states.ensures in
    let inside : block < 16 = omega arith in
    record {
      state = states_more c.args.plan.now c.args.points.now.inputs c.args.first c.args.past block c.loop-block.points c.put_block_states.new.points inside i.inputs new.blocks i.state new.state;
      input = λ p k within. new.input p k within ∙ i.input p k within;
      inputs = new.inputs ∙ i.inputs;
      latches = new.latches ∙ i.latches;
    }
