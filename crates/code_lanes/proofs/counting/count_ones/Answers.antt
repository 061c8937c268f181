use Rattle.std.proofs.Common.{◌≡◌, ◌≤◌, ◌+◌, ◌<◌, ◌^◌, ℕ, length, arith, sym, subst}
use Rattle.tsc_bits.specs.Counting.{counted}
use Rattle.code_lanes.specs.Lanes.{column}
use Rattle.code_lanes.proofs.CountLemmas.{ones_more, ones_all}
use Rattle.code_lanes.proofs.counting.count_ones.Goals as goal

pub loop-lane-init : goal.loop-lane-init
loop-lane-init c = λ k few room. omega arith

pub loop-lane-preserved : goal.loop-lane-preserved
loop-lane-preserved c = λ k few room.
    let old = c.loop-lane.digits in
    let lanes = c.args.lanes.now in
    let i = c.loop-lane.lane-index in
    let same : length old ≡ length c.args.digits.now = omega arith in
    ones_more k lanes i (counted (column k c.args.digits.now)) (counted (column k old)) (counted (column k c.count_lane.new.digits)) (2 ^ length c.args.digits.now) (omega arith) room
    (c.loop-lane.invariant k few room)
    (λ space. c.count_lane.ensures.counted k few (subst (λ (n : ℕ). counted (column k old) + 1 < 2 ^ n) (sym same) space))

pub returns : goal.returns
returns c = record {
  ones = λ k few room.
      let past : length c.args.lanes.now ≤ c.loop-lane.lane-index = omega arith in
      ones_all k c.args.lanes.now c.loop-lane.lane-index (counted (column k c.args.digits.now)) (counted (column k c.loop-lane.digits)) past (c.loop-lane.invariant k few room);
}
