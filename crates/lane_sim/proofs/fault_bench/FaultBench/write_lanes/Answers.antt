use Rattle.lane_sim.proofs.fault_bench.FaultBench.write_lanes.Goals as goal

pub settle_rows_again-requires-clause-old : goal.settle_rows_again-requires-clause-old
settle_rows_again-requires-clause-old c = c.self.invariant.within
