use Rattle.std.proofs.Common.{arith}
use Rattle.fault_lanes.proofs.StateLemmas.{first_bits}
use Rattle.fault_lanes.proofs.states.start_states.Goals as goal

pub returns : goal.returns
returns c = record {
  first = λ lane inside. first_bits c.args.net.now.circuit c.loop-latch.states lane (λ l below. c.loop-latch.invariant l lane (omega arith) inside);
}
