use Rattle.std.proofs.Common.{ℕ, ◌+◌, ◌*◌, ◌^◌, ◌<◌, Bool, sym, ap₂, ◌∙◌, subst, arith}
use Rattle.tsc_bits.specs.Bits.{weight_of}
use Rattle.tsc_net.specs.declared.ids.NetId.{NetId}
use Rattle.fault_sim.specs.Sim.{point_bit}
use Rattle.fault_sim.proofs.ReadingLemmas.{binary_more, binary_room}
use Rattle.fault_sim.proofs.reading.number_at.Goals as goal

pub push_bit-number-requires : goal.push_bit-number-requires
push_bit-number-requires c = record {
  room = subst (λ (n : ℕ). n < 2 ^ 63) (sym c.loop-net.invariant)
      (binary_room (λ (net : NetId). point_bit c.args.bench.now c.args.point net.number) c.args.nets.now c.loop-net.net-index (omega arith));
}

pub loop-net-preserved : goal.loop-net-preserved
loop-net-preserved c =
    c.push_bit-number.ensures.number
    ∙ (ap₂ (λ (n : ℕ) (b : Bool). n * 2 + weight_of b) c.loop-net.invariant c.point_bit.ensures.bit
    ∙ sym (binary_more (λ (net : NetId). point_bit c.args.bench.now c.args.point net.number) c.args.nets.now c.loop-net.net-index _ c.loop-net-test.true))
