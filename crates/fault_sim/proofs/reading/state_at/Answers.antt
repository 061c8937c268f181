use Rattle.std.proofs.Common.{ℕ, ◌+◌, ◌*◌, ◌^◌, ◌<◌, Bool, sym, ap, ap₂, ◌∙◌, subst, arith}
use Rattle.tsc_bits.specs.Bits.{weight_of}
use Rattle.fault_secure.specs.StuckAt.{on_pin}
use Rattle.tsc_net.specs.Fault.{stuck_at_or_none}
use Rattle.fault_sim.specs.Sim.{point_bit}
use Rattle.fault_sim.specs.Shown.{taken_bit}
use Rattle.fault_sim.proofs.ReadingLemmas.{binary_more, binary_room}
use Rattle.fault_sim.proofs.reading.state_at.Goals as goal

pub push_bit-state-requires : goal.push_bit-state-requires
push_bit-state-requires c = record {
  room = subst (λ (n : ℕ). n < 2 ^ 63) (sym c.loop-latch.invariant)
      (binary_room (taken_bit (stuck_at_or_none c.args.fault) (point_bit c.args.bench.now c.args.point)) c.args.latches.now c.loop-latch.latch-index (omega arith));
}

pub loop-latch-preserved : goal.loop-latch-preserved
loop-latch-preserved c =
    c.push_bit-state.ensures.number
    ∙ (ap₂ (λ (n : ℕ) (b : Bool). n * 2 + weight_of b) c.loop-latch.invariant
    (c.pin_bit-read.ensures.bit ∙ ap (on_pin (stuck_at_or_none c.args.fault) _ 0) c.point_bit.ensures.bit)
    ∙ sym (binary_more (taken_bit (stuck_at_or_none c.args.fault) (point_bit c.args.bench.now c.args.point)) c.args.latches.now c.loop-latch.latch-index _ c.loop-latch-test.true))
