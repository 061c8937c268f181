use Rattle.std.proofs.Common.{ap}
use Rattle.fault_secure.specs.CodePlan.{CodePlan}
use Rattle.fault_lanes.specs.Bench.{valuation_of}
use Rattle.fault_grades.proofs.SeenLemmas.{agree_lanes}
use Rattle.fault_grades.proofs.seen.agreeing.Goals as goal

pub returns : goal.returns
returns c =
    let P = c.args.plan.now in
    record {
      lanes = agree_lanes c.net_lanes-first.result c.net_lanes-second.result c.differ.result c.signed.result (valuation_of c.args.bench.now) c.plan.inside.rail1.number c.plan.inside.rail2.number P.rail1 P.rail2
          (ap (λ (Q : CodePlan). Q.rail1) c.plan.view_is) (ap (λ (Q : CodePlan). Q.rail2) c.plan.view_is)
          c.net_lanes-first.ensures.lanes c.net_lanes-second.ensures.lanes c.differ.ensures.lanes c.signed.ensures.lanes;
    }
