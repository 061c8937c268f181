use Rattle.std.proofs.Common.{arith}
use Rattle.fault_lanes.proofs.StateLemmas.{given_bits}
use Rattle.fault_lanes.proofs.states.put_states.Goals as goal

pub returns : goal.returns
returns c = record {
  state = λ lane inside. given_bits c.args.state.now c.loop-latch.states lane (λ l below. c.loop-latch.invariant l lane (omega arith) inside);
}
