use Rattle.std.proofs.Common.{[], ◌∷◌, length, sym, ◌∙◌, ap, subst}
use Rattle.std.proofs.lemmas.Result.{IfOk-weaker}
use Rattle.fault_secure.specs.CodePlan.{CodePlan}
use Rattle.net_cones.specs.Cones.{MarksCone}
use Rattle.checker_audit.proofs.ProgramLemmas.{program_is, order_below}
use Rattle.checker_audit.proofs.program.checker_program.Goals as goal

pub outside_places-requires-clause-rails : goal.outside_places-requires-clause-rails
outside_places-requires-clause-rails c =
    order_below c.args.net.now.circuit c.order.result.now (length c.deref.result.now) c.order.ensures.order
    (ap length c.deref.ensures.value ∙ c.in_ok-marks.ensures.marks.sized)

pub returns : goal.returns
returns c = record {
  program = IfOk-weaker c.outside_places.result _ _ (λ places are. program_is c.args.net.now.circuit c.args.plan.now c.order.result.now c.deref.result.now c.args.function.now places.items c.order.ensures.whole c.order.ensures.order
      (subst (λ (P : CodePlan). MarksCone c.args.net.now.circuit (P.rail1 ∷ (P.rail2 ∷ [])) c.deref.result.now) c.plan.view_is
      (subst (MarksCone c.args.net.now.circuit (c.plan.inside.rail1.number ∷ (c.plan.inside.rail2.number ∷ []))) (sym c.deref.ensures.value) c.in_ok-marks.ensures.marks)) c.requires.function are) c.outside_places.ensures.places;
}
