use Rattle.std.proofs.Common.{sym, subst, true≢false}
use Rattle.fault_secure.specs.StuckAt.{NoFault}
use Rattle.lane_sim.specs.FaultBench.{FaultBenchState}
use Rattle.lane_sim.specs.Points.{PointsState, ArePointsOf}
use Rattle.lane_sim.proofs.FaultBenchLemmas.{shown_rows}
use Rattle.lane_sim.proofs.fault_bench.FaultBench.settle.Goals as goal

pub invariant_of-self : goal.invariant_of-self
invariant_of-self c =
    let program = c.self.inside.program in
    let points = c.copy_from.new.self in
    record {
      rows = c.settle_rows.ensures.rows;
      points = subst (λ (s : PointsState). ArePointsOf program.circuit s) (sym c.copy_from.ensures.same)
          (subst (λ (b : FaultBenchState). ArePointsOf b.circuit c.args.points.now) (sym c.self.view_is) c.requires.points);
      marks = c.self.invariant.marks;
      readers = c.self.invariant.readers;
      watches = c.self.invariant.watches;
      within = λ net is. absurd (true≢false (sym is));
      settled = λ is. shown_rows program NoFault points c.settle_rows.new.block c.first_node-first.ensures.whole c.self.invariant.watches c.settle_rows.ensures.shows;
    }
