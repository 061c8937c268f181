use Rattle.std.proofs.Common.{◌≡◌, ℕ, ◌==◌, true, ap, ◌∙◌, subst}
use Rattle.fault_secure.specs.CodePlan.{CodePlan}
use Rattle.tsc_net.specs.SourceView.{logic_of}
use Rattle.behaviour_audit.proofs.PointsLemmas.{loose_arrives, network_arrives, without_latches}
use Rattle.behaviour_audit.proofs.behaviour.always_arrives.Goals as goal

pub returns-in-Network : goal.returns-in-Network
returns-in-Network c = record {
  arrives = λ yes_ q x next.
      let P = c.args.plan.now in
      let none : (P.latches == 0) ≡ true = subst (λ (n : ℕ). (n == 0) ≡ true) (c.width.ensures.width ∙ ap (λ (Q : CodePlan). Q.latches) c.plan.view_is) yes_ in
      network_arrives (logic_of c.args.source.now) c.in-Network.field-0.now.circuit P q x next (ap logic_of c.in-Network.is) (without_latches P next none);
}

pub returns-in-Loose : goal.returns-in-Loose
returns-in-Loose c = record {
  arrives = λ yes_ q x next.
      let P = c.args.plan.now in
      let loose = c.in-Loose.field-0.now in
      let none : (P.latches == 0) ≡ true = subst (λ (n : ℕ). (n == 0) ≡ true) (c.width-in-Loose.ensures.width ∙ ap (λ (Q : CodePlan). Q.latches) c.plan.view_is) yes_ in
      loose_arrives (logic_of c.args.source.now) loose.value.circuit loose.free.circuit P q x next (ap logic_of c.in-Loose.is) (without_latches P next none);
}
