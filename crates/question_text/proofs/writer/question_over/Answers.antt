use Rattle.std.proofs.Common.{take, ap, ◌∙◌, arith}
use Rattle.fault_secure.specs.CodePlan.{CodePlan}
use Rattle.exact_question.specs.Rows.{written}
use Rattle.question_text.specs.declared.numbers.Numbers.{Numbers}
use Rattle.question_text.specs.Whole.{clauses_over}
use Rattle.question_text.proofs.TextLaw.{question_is}
use Rattle.question_text.proofs.writer.question_over.Goals as goal

pub clauses_of-requires-clause-shown : goal.clauses_of-requires-clause-shown
clauses_of-requires-clause-shown c =
    let view = ap (λ (P : CodePlan). P.outputs) c.plan.view_is in
    let long = c.requires.asked.plan_of.outputs in
    omega (arith, view, long)

pub returns : goal.returns
returns c =
    let C = c.args.source.now.circuit in
    let N = c.args.net.now.circuit in
    record {
      question =
          c.in_ok-clauses.ensures.clauses
          ∙ ap (λ (P : CodePlan). written (clauses_over c.args.numbers.now C N c.args.groups.now P.rail1 P.rail2 (take P.outputs N.outputs))) c.plan.view_is
          ∙ ap (λ (n : Numbers). written (clauses_over n C N c.args.groups.now c.args.plan.now.rail1 c.args.plan.now.rail2 (take c.args.plan.now.outputs N.outputs))) c.requires.numbers
          ∙ question_is C N c.args.plan.now c.args.groups.now c.requires.asked c.requires.groups;
    }
