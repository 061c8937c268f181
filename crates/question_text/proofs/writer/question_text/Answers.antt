use Rattle.std.proofs.Common.{sym, ap, ◌∙◌, subst, arith}
use Rattle.question_text.specs.Groups.{AreGroups}
use Rattle.question_text.specs.declared.numbers.Numbers.{Numbers}
use Rattle.question_text.proofs.Below.{literals_are_within}
use Rattle.question_text.proofs.TextLaw.{groups_kept, count_is, text_is}
use Rattle.question_text.proofs.writer.question_text.Goals as goal

pub numbers_of-requires : goal.numbers_of-requires
numbers_of-requires c =
    let are : AreGroups c.args.plan.now c.as_slice-groups.result.now =
    subst (AreGroups c.args.plan.now) (sym c.as_slice-groups.ensures.whole) (groups_kept c.plan.inside c.args.plan.now c.plan.view_is c.plan.invariant c.requires.asked.parity) in
    record { room = omega (arith, count_is c.args.source.now.circuit c.args.net.now.circuit c.args.plan.now c.as_slice-groups.result.now c.requires.asked are, c.requires.few) }

pub question_over-requires-clause-groups : goal.question_over-requires-clause-groups
question_over-requires-clause-groups c =
    subst (AreGroups c.args.plan.now) (sym c.as_slice-groups.ensures.whole) (groups_kept c.plan.inside c.args.plan.now c.plan.view_is c.plan.invariant c.requires.asked.parity)

pub question_over-requires-clause-few : goal.question_over-requires-clause-few
question_over-requires-clause-few c =
    let are : AreGroups c.args.plan.now c.as_slice-groups.result.now =
    subst (AreGroups c.args.plan.now) (sym c.as_slice-groups.ensures.whole) (groups_kept c.plan.inside c.args.plan.now c.plan.view_is c.plan.invariant c.requires.asked.parity) in
    omega (arith, count_is c.args.source.now.circuit c.args.net.now.circuit c.args.plan.now c.as_slice-groups.result.now c.requires.asked are, c.requires.few)

pub text_over-requires : goal.text_over-requires
text_over-requires c =
    let are : AreGroups c.args.plan.now c.as_slice-groups.result.now =
    subst (AreGroups c.args.plan.now) (sym c.as_slice-groups.ensures.whole) (groups_kept c.plan.inside c.args.plan.now c.plan.view_is c.plan.invariant c.requires.asked.parity) in
    let rails = ap (λ (n : Numbers). n.rails) c.in_ok-numbers.ensures.numbers in
    record { room = omega (arith, rails, count_is c.args.source.now.circuit c.args.net.now.circuit c.args.plan.now c.as_slice-groups.result.now c.requires.asked are, c.requires.few) }

pub returns : goal.returns
returns c =
    let are : AreGroups c.args.plan.now c.as_slice-groups.result.now =
    subst (AreGroups c.args.plan.now) (sym c.as_slice-groups.ensures.whole) (groups_kept c.plan.inside c.args.plan.now c.plan.view_is c.plan.invariant c.requires.asked.parity) in
    record {
      text =
          c.in_ok-text.ensures.text
          ∙ text_is c.args.source.now c.args.net.now c.args.plan.now c.as_slice-groups.result.now c.requires.asked are c.in_ok-numbers.numbers c.in_ok-clauses.clauses
          c.in_ok-numbers.ensures.numbers c.in_ok-clauses.ensures.question;
      within = literals_are_within c.args.source.now.circuit c.args.net.now.circuit c.args.plan.now c.as_slice-groups.result.now c.requires.asked are;
    }
