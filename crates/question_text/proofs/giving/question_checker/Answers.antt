-- The clauses are those of the question, and a checker over its variables can be given them.
use Rattle.std.proofs.Common.{◌≡◌, ℕ, ◌+◌, ◌<◌, ◌^◌, List, length, take, sym, ap, ◌∙◌, subst, arith}
use Rattle.std.proofs.lemmas.List.{take-map}
use Rattle.fault_secure.specs.Circuit.{Circuit}
use Rattle.fault_secure.specs.CodePlan.{CodePlan}
use Rattle.refutations.specs.declared.literal.Literal.{Literal}
use Rattle.refutations.specs.Checking.{CheckerState, IsSound, empty_checker}
use Rattle.tsc_net.specs.PlanView.{net_numbers, plan_of}
use Rattle.tsc_net.specs.declared.ids.NetId.{NetId}
use Rattle.tsc_net.specs.declared.plan.Group.{Group}
use Rattle.exact_question.specs.Laws.{IsAsked}
use Rattle.exact_question.specs.Question.{question, variables}
use Rattle.exact_question.specs.Rows.{written}
use Rattle.question_text.specs.declared.numbers.Numbers.{Numbers}
use Rattle.question_text.specs.Giving.{CanBeGiven, given, question_state}
use Rattle.question_text.specs.Groups.{AreGroups}
use Rattle.question_text.specs.Whole.{clauses_over, numbers_of}
use Rattle.question_text.proofs.Below.{literals_are_within}
use Rattle.question_text.proofs.Given.{question_is_sound}
use Rattle.question_text.proofs.TextLaw.{groups_kept, count_is, question_is}
use Rattle.question_text.proofs.giving.question_checker.Goals as goal

module _ (C N : Circuit) (P : CodePlan) (groups : List Group) (asked : IsAsked C N P) (are : AreGroups P groups) where
  -- the checker has the question's variables
  checker_is : (numbers : Numbers) (checker : CheckerState) → numbers ≡ numbers_of C N groups → checker ≡ empty_checker (numbers.rails + 3)
      → checker ≡ empty_checker (length (variables C N P))
  checker_is numbers checker are_numbers empty =
      empty ∙ ap (λ (n : Numbers). empty_checker (n.rails + 3)) are_numbers ∙ ap empty_checker (sym (count_is C N P groups asked are))

  -- the clauses are the question's
  clauses_are : (numbers : Numbers) (Q : CodePlan) (outputs : List NetId) → numbers ≡ numbers_of C N groups → Q ≡ P → net_numbers outputs ≡ N.outputs
      → written (clauses_over numbers C N groups Q.rail1 Q.rail2 (net_numbers (take Q.outputs outputs))) ≡ question C N P
  clauses_are numbers Q outputs are_numbers view shown =
      ap (λ (nets : List ℕ). written (clauses_over numbers C N groups Q.rail1 Q.rail2 nets)) (sym (take-map (λ (net : NetId). net.number) Q.outputs outputs) ∙ ap (take Q.outputs) shown)
      ∙ ap (λ (R : CodePlan). written (clauses_over numbers C N groups R.rail1 R.rail2 (take R.outputs N.outputs))) view
      ∙ ap (λ (n : Numbers). written (clauses_over n C N groups P.rail1 P.rail2 (take P.outputs N.outputs))) are_numbers
      ∙ question_is C N P groups asked are

  can_be : (checker : CheckerState) (clauses : List (List Literal)) → checker ≡ empty_checker (length (variables C N P)) → clauses ≡ question C N P → length (question C N P) < 2 ^ 32
      → CanBeGiven checker clauses
  can_be checker clauses empty all few =
      subst (λ (s : CheckerState). CanBeGiven s clauses) (sym empty)
      (subst (λ (list : List (List Literal)). CanBeGiven (empty_checker (length (variables C N P))) list) (sym all)
      (record { within = literals_are_within C N P groups asked are; room = omega (arith, few) }))

pub numbers_of-requires : goal.numbers_of-requires
numbers_of-requires c =
    let C = c.args.source.now.circuit in
    let N = c.args.net.now.circuit in
    let P = c.args.plan.now in
    let groups = c.as_slice-groups.result.now in
    let are : AreGroups P groups =
    subst (AreGroups P) (sym c.as_slice-groups.ensures.whole) (groups_kept c.plan.inside P c.plan.view_is c.plan.invariant c.requires.asked.parity) in
    record { room = omega (arith, count_is C N P groups c.requires.asked are, c.requires.few) }

pub overflow_add-numbers : goal.overflow_add-numbers
overflow_add-numbers c =
    let C = c.args.source.now.circuit in
    let N = c.args.net.now.circuit in
    let P = c.args.plan.now in
    let groups = c.as_slice-groups.result.now in
    let are : AreGroups P groups =
    subst (AreGroups P) (sym c.as_slice-groups.ensures.whole) (groups_kept c.plan.inside P c.plan.view_is c.plan.invariant c.requires.asked.parity) in
    let rails = ap (λ (n : Numbers). n.rails) c.in_ok-numbers.ensures.numbers in
    omega (arith, rails, count_is C N P groups c.requires.asked are, c.requires.few)

pub give_question-requires-clause-few : goal.give_question-requires-clause-few
give_question-requires-clause-few c =
    let C = c.args.source.now.circuit in
    let N = c.args.net.now.circuit in
    let P = c.args.plan.now in
    let groups = c.as_slice-groups.result.now in
    let are : AreGroups P groups =
    subst (AreGroups P) (sym c.as_slice-groups.ensures.whole) (groups_kept c.plan.inside P c.plan.view_is c.plan.invariant c.requires.asked.parity) in
    omega (arith, count_is C N P groups c.requires.asked are, c.requires.few)

pub give_question-requires-clause-can : goal.give_question-requires-clause-can
give_question-requires-clause-can c =
    let C = c.args.source.now.circuit in
    let N = c.args.net.now.circuit in
    let P = c.args.plan.now in
    let groups = c.as_slice-groups.result.now in
    let are : AreGroups P groups =
    subst (AreGroups P) (sym c.as_slice-groups.ensures.whole) (groups_kept c.plan.inside P c.plan.view_is c.plan.invariant c.requires.asked.parity) in
    let checker = checker_is C N P groups c.requires.asked are c.in_ok-numbers.numbers c.in_ok-checker.checker c.in_ok-numbers.ensures.numbers c.in_ok-checker.ensures.empty in
    let clauses = clauses_are C N P groups c.requires.asked are c.in_ok-numbers.numbers (plan_of c.plan.inside) c.outputs.result.now c.in_ok-numbers.ensures.numbers c.plan.view_is c.outputs.ensures.outputs in
    can_be C N P groups c.requires.asked are c.in_ok-checker.checker _ checker clauses c.requires.few_clauses

pub returns : goal.returns
returns c =
    let C = c.args.source.now.circuit in
    let N = c.args.net.now.circuit in
    let P = c.args.plan.now in
    let groups = c.as_slice-groups.result.now in
    let are : AreGroups P groups =
    subst (AreGroups P) (sym c.as_slice-groups.ensures.whole) (groups_kept c.plan.inside P c.plan.view_is c.plan.invariant c.requires.asked.parity) in
    let checker = checker_is C N P groups c.requires.asked are c.in_ok-numbers.numbers c.in_ok-checker.checker c.in_ok-numbers.ensures.numbers c.in_ok-checker.ensures.empty in
    let clauses = clauses_are C N P groups c.requires.asked are c.in_ok-numbers.numbers (plan_of c.plan.inside) c.outputs.result.now c.in_ok-numbers.ensures.numbers c.plan.view_is c.outputs.ensures.outputs in
    let is : c.give_question.new.checker ≡ question_state C N P =
    c.in_ok-give_question.ensures.given ∙ ap (given c.in_ok-checker.checker) clauses ∙ ap (λ (s : CheckerState). given s (question C N P)) checker in
    record { given = is; sound = subst (IsSound (question C N P)) (sym is) (question_is_sound C N P) }
