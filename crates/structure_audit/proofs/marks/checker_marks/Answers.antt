use Rattle.std.proofs.Common.{[], ◌∷◌, subst}
use Rattle.fault_secure.specs.CodePlan.{CodePlan}
use Rattle.net_cones.specs.Cones.{MarksCone}
use Rattle.structure_audit.proofs.MarksLemmas.{checker_marked}
use Rattle.structure_audit.proofs.marks.checker_marks.Goals as goal

pub returns : goal.returns
returns c = record {
  checker = checker_marked c.args.net.now.circuit c.args.plan.now c.args.function.now c.in_ok-rails.rails.items c.without.result.items c.requires.function
      (subst (λ (P : CodePlan). MarksCone c.args.net.now.circuit (P.rail1 ∷ (P.rail2 ∷ [])) c.in_ok-rails.rails.items) c.plan.view_is c.in_ok-rails.ensures.marks)
      c.without.ensures.sized c.without.ensures.cleared;
}
