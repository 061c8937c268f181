use Rattle.std.proofs.Common.{◌+◌, ◌*◌, ◌∙◌, sym, arith, below_more}
use Rattle.tsc_bits.proofs.Bits.{get_or-bits_of}
use Rattle.lane_sim.proofs.places.put_block_inputs.Goals as goal

pub loop-input-preserved : goal.loop-input-preserved
loop-input-preserved c =
    let block = c.args.block in
    let input = c.loop-input.input in
    let i = c.loop-input.invariant in
    let new = c.put_input_lane.ensures in
    record {
      input = below_more _ _
          (λ k less p few. new.others (block * 64 + p) k (omega arith) (λ same. omega arith) ∙ i.input k less p few)
          (λ p few. new.put p few ∙ (c.places_with-lane.ensures.bits p few ∙ sym (get_or-bits_of c.inputs-inputs.result (c.args.base + p) input c.loop-input-test.true)));
      blocks = λ p k within apart.
          let step = new.blocks p k within apart in
          let before = i.blocks p k within apart in
          (step.0 ∙ before.0, step.1 ∙ before.1);
      states = λ p l within. new.states p l within ∙ i.states p l within;
      inputs = new.inputs ∙ i.inputs;
      latches = new.latches ∙ i.latches;
    }
