use Rattle.std.proofs.Common.{◌≤◌, length, arith}
use Rattle.tsc_bits.specs.Counting.{counted}
use Rattle.code_lanes.specs.Lanes.{column}
use Rattle.code_lanes.proofs.CountLemmas.{number_more_lane, number_all}
use Rattle.code_lanes.proofs.counting.write_binary.Goals as goal

pub loop-lane-init : goal.loop-lane-init
loop-lane-init c = λ k none. none

pub loop-lane-preserved : goal.loop-lane-preserved
loop-lane-preserved c = λ k none.
    number_more_lane k c.args.lanes.now c.loop-lane.lane-index c.loop-lane.digits c.push_lane.new.digits (omega arith) (omega arith) (c.loop-lane.invariant k none) c.push_lane.ensures.pushed

pub returns : goal.returns
returns c = record {
  number = λ k few none.
      let past : length c.args.lanes.now ≤ c.loop-lane.lane-index = omega arith in
      number_all k c.args.lanes.now c.loop-lane.lane-index (counted (column k c.loop-lane.digits)) past (c.loop-lane.invariant k none);
}
