use Rattle.std.proofs.Common.{◌∙◌}
use Rattle.tsc_net.specs.Fault.{stuck_at_or_none}
use Rattle.lane_sim.proofs.FaultBenchLemmas.{more_lanes}
use Rattle.lane_sim.proofs.shown_lanes.write_lanes.Goals as goal

pub loop-place-preserved : goal.loop-place-preserved
loop-place-preserved c = record {
  room = c.store.ensures.sized ∙ c.loop-place.invariant.room;
  written = more_lanes c.args.program.now.circuit (stuck_at_or_none c.args.fault) c.args.points.now c.args.shown.now c.loop-place.place _ c.loop-place.lanes c.store.new.block
      c.lanes_under-net.result c.loop-place-test.true c.loop-place.invariant.written c.lanes_under-net.ensures.lanes c.store.ensures.stored c.store.ensures.others;
}
