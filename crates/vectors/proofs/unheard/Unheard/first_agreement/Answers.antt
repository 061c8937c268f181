use Rattle.std.proofs.Common.{Option, ℕ, IfSome, refl, ap, subst}
use Rattle.fault_secure.specs.CodePlan.{CodePlan}
use Rattle.fault_secure.specs.StuckAt.{NoFault}
use Rattle.tsc_net.specs.Fault.{stuck_at}
use Rattle.lane_sim.specs.First.{IsFirstIn}
use Rattle.lane_sim.specs.FaultBench.{AgreeUnder}
use Rattle.vectors.proofs.PointLemmas.{same_agreement}
use Rattle.vectors.proofs.UnheardLemmas.{first_with, first_without}
use Rattle.vectors.proofs.unheard.Unheard.first_agreement.Goals as goal

pub returns-in-Some-clause-found : goal.returns-in-Some-clause-found
returns-in-Some-clause-found c =
    let N = c.args.net.now.circuit in
    let P = c.args.plan.now in
    let points = c.args.trial.now.points in
    first_with N P (stuck_at c.args.fault) points c.order-order.ensures.acyclic c.requires.fault (c.is_unheard-unheard.ensures.unheard c.if-unheard.true) c.args.many c.in-Some.point
    (subst (λ (found : Option (Option ℕ)). IfSome found (IsFirstIn (AgreeUnder N NoFault points P.rail1 P.rail2) 0 c.args.many)) c.in-Some.is c.requires.known.found)

pub returns-then-unheard-2-clause-known : goal.returns-then-unheard-2-clause-known
returns-then-unheard-2-clause-known c =
    let N = c.args.net.now.circuit in
    let P = c.args.plan.now in
    let f = stuck_at c.args.fault in
    let points = c.args.trial.now.points in
    let point = c.first_agreement-point.result in
    let found = same_agreement c.args.trial.now.bench.circuit N f f points c.plan.inside.rail1.number c.plan.inside.rail2.number P.rail1 P.rail2 c.args.many point
    c.requires.trial.circuit refl (ap (λ (p : CodePlan). p.rail1) c.plan.view_is) (ap (λ (p : CodePlan). p.rail2) c.plan.view_is)
    (c.first_agreement-point.ensures.found points c.requires.settled) in
    record {
      marks = c.requires.known.marks;
      found = first_without N P f points c.order-order.ensures.acyclic c.requires.fault (c.is_unheard-unheard.ensures.unheard c.if-unheard-2.true) c.args.many point found;
    }
