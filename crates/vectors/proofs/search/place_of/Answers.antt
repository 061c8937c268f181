use Rattle.std.proofs.Common.{◌-◌, ◌∙◌, sym, subst}
use Rattle.tsc_net.specs.Fault.{stuck_at}
use Rattle.fault_secure.specs.StuckAt.{StuckAt}
use Rattle.vectors.specs.Vectors.{ExposesAt}
use Rattle.lane_sim.specs.First.{IsFirstIn}
use Rattle.lane_sim.specs.FaultBench.{AgreeUnder}
use Rattle.vectors.proofs.PointLemmas.{first_until, none_before}
use Rattle.vectors.proofs.search.place_of.Goals as goal

pub returns-clause-found : goal.returns-clause-found
returns-clause-found c =
    let N = c.args.net.now.circuit in
    let P = c.args.plan.now in
    let f = stuck_at c.args.fault in
    let points = c.args.trial.now.points in
    let first = c.args.first in
    let past = c.args.past in
    let point = c.first_agreement-point.result in
    let none = none_before (ExposesAt N P f) first c.args.found (sym c.is_some.ensures ∙ c.if-is_some.false) c.requires.found in
    let found = subst (λ (g : StuckAt). IsFirstIn (AgreeUnder N g points P.rail1 P.rail2) 0 (past - first) point) c.exposing_fault-settling.ensures.fault c.first_agreement-point.ensures.found in
    subst (IsFirstIn (ExposesAt N P f) 0 past) (sym c.place_from.ensures.place) (first_until N P f points c.requires.fault first past c.requires.order c.requires.put none point found)
