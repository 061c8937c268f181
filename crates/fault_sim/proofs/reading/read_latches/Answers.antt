use Rattle.std.proofs.Common.{Bool, List, length, map, false, sym, ap, ◌∙◌, length-set, arith}
use Rattle.std.proofs.lemmas.List.{get_or-map, length-map}
use Rattle.fault_secure.specs.StuckAt.{on_pin}
use Rattle.tsc_net.specs.Fault.{stuck_at_or_none}
use Rattle.tsc_net.specs.declared.netlist.LatchView.{LatchView}
use Rattle.fault_sim.specs.Sim.{point_bit}
use Rattle.fault_sim.specs.Shown.{taken_bit}
use Rattle.fault_sim.proofs.WrittenLemmas.{written_more, written_whole}
use Rattle.fault_sim.proofs.reading.read_latches.Goals as goal

pub loop-place-preserved : goal.loop-place-preserved
loop-place-preserved c =
    let views = c.args.latches.now in
    let place = c.loop-place.place in
    let i = c.loop-place.invariant in
    let inside = c.loop-place-test.true in
    let read = λ (latch : LatchView). point_bit c.args.bench.now c.args.point latch.reads.number in
    let taken = taken_bit (stuck_at_or_none c.args.fault) (point_bit c.args.bench.now c.args.point) in
    let next_all : List Bool = map read views in
    let state_all : List Bool = map taken views in
    let many = length-map views read in
    let many_taken = length-map views taken in
    record {
      next_sized = ap length c.replace.ensures.changed ∙ (length-set c.loop-place.next place c.point_bit-bit.result ∙ i.next_sized);
      state_sized = ap length c.replace-in-loop-place.ensures.changed ∙ (length-set c.loop-place.state place c.pin_bit.result ∙ i.state_sized);
      next = written_more next_all c.loop-place.next c.replace.new.self place c.point_bit-bit.result false (omega (arith, many, inside)) (omega (arith, i.next_sized, inside))
          c.replace.ensures.changed (c.point_bit-bit.ensures.bit ∙ sym (get_or-map read views place _ false inside)) i.next;
      state = written_more state_all c.loop-place.state c.replace-in-loop-place.new.self place c.pin_bit.result false (omega (arith, many_taken, inside)) (omega (arith, i.state_sized, inside))
          c.replace-in-loop-place.ensures.changed
          (c.pin_bit.ensures.bit ∙ (ap (on_pin (stuck_at_or_none c.args.fault) _ 0) c.point_bit-bit.ensures.bit ∙ sym (get_or-map taken views place _ false inside))) i.state;
    }

pub returns-clause-next : goal.returns-clause-next
returns-clause-next c =
    let views = c.args.latches.now in
    let read = λ (latch : LatchView). point_bit c.args.bench.now c.args.point latch.reads.number in
    let many = length-map views read in
    written_whole (map read views) c.loop-place.next c.loop-place.place (omega (arith, many)) (c.loop-place.invariant.next_sized ∙ sym many) c.loop-place.invariant.next

pub returns-clause-state : goal.returns-clause-state
returns-clause-state c =
    let views = c.args.latches.now in
    let taken = taken_bit (stuck_at_or_none c.args.fault) (point_bit c.args.bench.now c.args.point) in
    let many = length-map views taken in
    written_whole (map taken views) c.loop-place.state c.loop-place.place (omega (arith, many)) (c.loop-place.invariant.state_sized ∙ sym many) c.loop-place.invariant.state
