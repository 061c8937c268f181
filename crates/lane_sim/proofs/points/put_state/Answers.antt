use Rattle.std.proofs.Common.{◌+◌, ◌∙◌, sym, arith, below_more}
use Rattle.lane_sim.proofs.points.put_state.Goals as goal
use Rattle.tsc_bits.proofs.Bits.{get_or-bits_of}

pub loop-latch-preserved : goal.loop-latch-preserved
loop-latch-preserved c = record {
  put = below_more _ _
      (λ k before. c.put_bit.ensures.nets (c.args.first + k) c.args.place c.requires.place (omega arith) ∙ c.loop-latch.invariant.put k before)
      (c.put_bit.ensures.put ∙ c.bit_at-value.ensures.bit ∙ sym (get_or-bits_of c.args.latches c.args.state c.loop-latch.latch c.loop-latch-test.true));
  points = λ net p inside apart. c.put_bit.ensures.points net p inside apart ∙ c.loop-latch.invariant.points net p inside apart;
  below = λ net p inside before. c.put_bit.ensures.nets net p inside (omega arith) ∙ c.loop-latch.invariant.below net p inside before;
}
