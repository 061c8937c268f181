use Rattle.tsc_net.specs.PlanView.{net_numbers}
use Rattle.lane_sim.specs.Lanes.{lane_bit}
use Rattle.fault_lanes.specs.Settling.{bits_at}
use Rattle.fault_lanes.proofs.CoverLemmas.{cover_is}
use Rattle.fault_lanes.proofs.covers.cover_lanes.Goals as goal
use Rattle.std.proofs.Common.{length}

pub returns : goal.returns
returns c = record {
  lanes = record {
    sized = c.signed.ensures.lanes.sized;
    lanes = λ lane inside.
        cover_is c.args.cover.now (bits_at c.args.words.now (net_numbers c.args.reads.now) lane) (length c.args.reads.now) c.rows.result.now c.on.result (lane_bit c.signed.result lane) (lane_bit c.rows_lanes.result lane)
        c.requires.wide c.on.ensures.on c.rows.ensures.rows (c.signed.ensures.lanes.lanes lane inside) (c.rows_lanes.ensures.lanes.lanes lane inside);
  };
}
