use Rattle.std.proofs.Common.{length}
use Rattle.tsc_cover.specs.Cover.{row_matches, literals}
use Rattle.tsc_net.specs.PlanView.{net_numbers}
use Rattle.lane_sim.specs.Lanes.{lane_bit}
use Rattle.fault_lanes.specs.Settling.{bits_at}
use Rattle.fault_lanes.proofs.CoverLemmas.{row_more}
use Rattle.fault_lanes.proofs.covers.row_lanes.Goals as goal

pub loop-pin-preserved : goal.loop-pin-preserved
loop-pin-preserved c = record {
  sized = c.meet_pin-all.ensures.lanes.sized;
  left = λ lane inside.
      row_more c.args.words.now c.args.reads.now c.loop-pin.pin c.args.row.care c.args.row.value lane (record { number = 0 }) (lane_bit c.loop-pin.all lane) (lane_bit c.meet_pin-all.result lane)
      (row_matches (literals (length c.args.reads.now) c.args.row.care c.args.row.value) (bits_at c.args.words.now (net_numbers c.args.reads.now) lane)) c.loop-pin-test.true
      (c.meet_pin-all.ensures.lanes.lanes lane inside) (c.loop-pin.invariant.left lane inside);
}
