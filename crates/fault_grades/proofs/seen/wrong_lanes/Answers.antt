use Rattle.std.proofs.Common.{◌||◌, arith, ◌∙◌, ap}
use Rattle.fault_secure.specs.Circuit.{bit}
use Rattle.lane_sim.specs.Lanes.{lane_bit}
use Rattle.fault_lanes.specs.Bench.{valuation_of}
use Rattle.fault_grades.proofs.SeenLemmas.{apart, wrong_more, wrong_end, wrong_start}
use Rattle.fault_grades.proofs.seen.wrong_lanes.Goals as goal

pub loop-net-init : goal.loop-net-init
loop-net-init c = record {
  sized = c.constant-wrong.ensures.lanes.sized;
  left = λ lane inside.
      wrong_start (bit (valuation_of c.args.bench.now lane)) (bit (valuation_of c.args.bench.now 0)) c.args.outputs.now (lane_bit c.constant-wrong.result lane) (c.constant-wrong.ensures.lanes.lanes lane inside);
}

pub loop-net-preserved : goal.loop-net-preserved
loop-net-preserved c =
    let bench = c.args.bench.now in
    record {
      sized = c.join-wrong.ensures.lanes.sized;
      left = λ lane inside.
          wrong_more (bit (valuation_of bench lane)) (bit (valuation_of bench 0)) c.args.outputs.now c.loop-net.net-index (record { number = 0 }) (lane_bit c.loop-net.wrong lane) (lane_bit c.join-wrong.result lane)
          (apart (bit (valuation_of bench lane)) (bit (valuation_of bench 0)) c.args.outputs.now) c.loop-net-test.true
          (c.join-wrong.ensures.lanes.lanes lane inside ∙ ap (λ b. lane_bit c.loop-net.wrong lane || b) (c.changed_lanes.ensures.lanes.lanes lane inside)) (c.loop-net.invariant.left lane inside);
    }

pub returns : goal.returns
returns c =
    let bench = c.args.bench.now in
    record {
      lanes = record {
        sized = c.loop-net.invariant.sized;
        lanes = λ lane inside.
            wrong_end (bit (valuation_of bench lane)) (bit (valuation_of bench 0)) c.args.outputs.now c.loop-net.net-index (lane_bit c.loop-net.wrong lane)
            (apart (bit (valuation_of bench lane)) (bit (valuation_of bench 0)) c.args.outputs.now) (omega arith) (c.loop-net.invariant.left lane inside);
      };
    }
