use Rattle.std.proofs.Common.{◌≡◌, ◌∙◌, map, length, refl, sym, ap, subst}
use Rattle.std.proofs.lemmas.List.{length-map}
use Rattle.fault_secure.specs.CodePlan.{CodePlan, IsWellMade}
use Rattle.tsc_net.specs.PlanView.{plan_of}
use Rattle.tsc_net.specs.declared.ids.NetId.{NetId}
use Rattle.tsc_net.specs.declared.plan.Group.{Group}
use Rattle.code_checkers.specs.GateList.{IsCheckerOf}
use Rattle.code_checkers.proofs.Within.{reads_word}
use Rattle.code_checkers.proofs.Sizes.{checker-few}
use Rattle.code_checkers.proofs.SizedWords.{same_sizes, checker_of}
use Rattle.code_checkers.proofs.plan_checker.checker.Goals as goal

pub returns-clause-made : goal.returns-clause-made
returns-clause-made c =
    let P : CodePlan = plan_of c.plan.inside in
    let checks : length P.checks ≡ length c.as_slice.result.now = length-map c.plan.inside.checks (λ (net : NetId). net.number) ∙ sym (ap length c.as_slice.ensures.whole) in
    let groups = ap (map (λ (group : Group). group.places)) (sym c.as_slice-2.ensures.whole) in
    subst (λ (Q : CodePlan). IsCheckerOf Q c.in_ok-made.made) c.plan.view_is
    (checker_of _ _ P c.in_ok-made.made (same_sizes P _ refl refl checks (sym c.width.ensures.width) refl) groups c.in_ok-made.ensures.made)

pub returns-clause-words : goal.returns-clause-words
returns-clause-words c = reads_word c.args.plan.now c.in_ok-made.made (subst IsWellMade c.plan.view_is c.plan.invariant.well_made) (returns-clause-made c)

pub returns-clause-few : goal.returns-clause-few
returns-clause-few c = checker-few c.args.plan.now c.in_ok-made.made (returns-clause-made c)
