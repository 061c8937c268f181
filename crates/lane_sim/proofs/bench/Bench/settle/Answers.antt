use Rattle.std.proofs.Common.{subst, Option, lit≤}
use Rattle.tsc_net.specs.Fault.{stuck_at_or_none}
use Rattle.fault_secure.specs.Settle.{Acyclic}
use Rattle.tsc_net.specs.declared.fault.Fault.{Fault}
use Rattle.fault_secure.proofs.OneRun.{one_valuation}
use Rattle.lane_sim.specs.Points.{point_input, point_state}
use Rattle.lane_sim.specs.Bench.{BenchState}
use Rattle.lane_sim.specs.Program.{ShowsWatched}
use Rattle.lane_sim.proofs.BenchLemmas.{shows_settled}
use Rattle.lane_sim.proofs.bench.Bench.settle.Goals as goal

pub returns-clause-shows : goal.returns-clause-shows
returns-clause-shows c =
    let program = c.self.inside.program in
    let block = c.settle_rows.new.block in
    shows_settled 1024 program c.args.points.now _ block (lit≤ tt)
    (subst (λ (o : Option Fault). ShowsWatched 1024 program c.args.points.now (stuck_at_or_none o) block) c.copied.ensures c.settle_rows.ensures.shows)

pub returns-clause-one : goal.returns-clause-one
returns-clause-one c = λ p.
    one_valuation c.args.self.now.circuit _ (point_input c.args.points.now p) (point_state c.args.points.now p)
    (subst (λ (s : BenchState). Acyclic s.circuit) c.self.view_is c.settle_rows.ensures.acyclic)
