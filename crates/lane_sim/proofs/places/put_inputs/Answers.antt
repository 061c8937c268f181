use Rattle.std.proofs.Common.{◌<◌, ◌∙◌, arith}
use Rattle.lane_sim.proofs.PuttingLemmas.{inputs_more}
use Rattle.lane_sim.proofs.places.put_inputs.Goals as goal

pub loop-block-preserved : goal.loop-block-preserved
loop-block-preserved c =
    let block = c.loop-block.block in
    let i = c.loop-block.invariant in
    let new = c.put_block_inputs.ensures in
    let inside : block < 16 = omega arith in
    record {
      input = inputs_more c.args.points.now.inputs c.args.first block c.loop-block.points c.put_block_inputs.new.points inside i.inputs new.blocks i.input new.input;
      states = λ p l within. new.states p l within ∙ i.states p l within;
      inputs = new.inputs ∙ i.inputs;
      latches = new.latches ∙ i.latches;
    }
