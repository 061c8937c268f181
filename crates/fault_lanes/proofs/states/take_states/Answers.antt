use Rattle.std.proofs.Common.{arith}
use Rattle.fault_secure.specs.Circuit.{no_latch}
use Rattle.fault_lanes.specs.Batch.{lane_fault}
use Rattle.fault_lanes.proofs.StateLemmas.{next_bits}
use Rattle.fault_lanes.proofs.states.take_states.Goals as goal

pub returns : goal.returns
returns c = record {
  next = λ lane inside.
      next_bits c.args.net.now.circuit (lane_fault c.args.chains.now.faults.items lane) c.args.words.now c.loop-latch.states lane
      (λ l below. c.nets-nets.ensures.checked.closed.latches l no_latch below) (λ l below. c.loop-latch.invariant l lane (omega arith) inside);
}
