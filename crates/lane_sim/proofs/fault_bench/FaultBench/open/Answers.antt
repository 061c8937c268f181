use Rattle.std.proofs.Common.{arith}
use Rattle.tsc_net.specs.PlanView.{net_numbers}
use Rattle.lane_sim.proofs.BenchLemmas.{peak_within}
use Rattle.lane_sim.proofs.fault_bench.FaultBench.open.Goals as goal

pub open-requires : goal.open-requires
open-requires c = record {
  small = omega (
    arith,
    c.count.ensures.count,
    c.in_ok-program.ensures.count,
    peak_within c.args.net.now.circuit (net_numbers c.in_ok-watch.watch),
    c.requires.nets,
  );
}
