use Rattle.std.proofs.Common.{length, ap, ◌||◌, ◌∙◌}
use Rattle.lane_sim.specs.Lanes.{lane_bit}
use Rattle.tsc_net.specs.PlanView.{net_numbers}
use Rattle.fault_lanes.specs.Settling.{bits_at}
use Rattle.fault_lanes.proofs.CoverLemmas.{rows_more}
use Rattle.fault_lanes.proofs.covers.rows_lanes.Goals as goal

pub loop-row-preserved : goal.loop-row-preserved
loop-row-preserved c = record {
  sized = c.join-some.ensures.lanes.sized;
  lanes = λ lane inside.
      rows_more (bits_at c.args.words.now (net_numbers c.args.reads.now) lane) (length c.args.reads.now) c.args.rows.now c.loop-row.row-index (record { care = 0; value = 0 }) (lane_bit c.loop-row.some lane) (lane_bit c.join-some.result lane) c.loop-row-test.true
      (c.join-some.ensures.lanes.lanes lane inside ∙ ap (λ b. lane_bit c.loop-row.some lane || b) (c.row_lanes.ensures.lanes.lanes lane inside)) (c.loop-row.invariant.lanes lane inside);
}
