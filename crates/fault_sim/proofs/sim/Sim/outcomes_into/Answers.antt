use Rattle.std.proofs.Common.{◌*◌, length, ap, ◌∙◌, subst, arith}
use Rattle.std.proofs.lemmas.List.{length-take}
use Rattle.fault_secure.specs.StuckAt.{StuckAt, present}
use Rattle.tsc_net.specs.Fault.{stuck_at_or_none}
use Rattle.fault_sim.specs.Sim.{SimState}
use Rattle.fault_sim.specs.Outcomes.{AreOutcomes}
use Rattle.fault_sim.proofs.BatchLemmas.{all_outcomes}
use Rattle.fault_sim.proofs.sim.Sim.outcomes_into.Goals as goal

pub returns-clause-outcomes : goal.returns-clause-outcomes
returns-clause-outcomes c =
    let N = c.self.inside.bench.circuit in
    let P = c.self.inside.shown.plan.now in
    let f = stuck_at_or_none c.if_present-fault.result in
    let xs = c.args.inputs.now in
    let states = c.args.states in
    let list = c.put_outcomes.new.list in
    let are : AreOutcomes N P f states xs list
    = all_outcomes N P f xs states (length c.truncate.new.self) list (ap length c.truncate.ensures.first ∙ omega (arith, length-take (states * length xs) c.args.into.now, c.requires.places)) c.put_outcomes.ensures.outcomes in
    subst (λ (s : SimState). AreOutcomes s.bench.circuit s.plan (present c.args.with_fault s.fault) states xs list) c.self.view_is
    (subst (λ (g : StuckAt). AreOutcomes N P g states xs list) c.if_present-fault.ensures.fault are)
