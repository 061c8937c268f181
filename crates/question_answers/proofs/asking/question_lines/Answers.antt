-- The network, then the netlist after it.
use Rattle.std.proofs.Common.{◌≤◌, refl, sym, ap, subst, arith}
use Rattle.std.proofs.lemmas.Result.{err_from_is_err_and, IfErr-weaker, on_ok_weaker}
use Rattle.tsc_net.specs.NetlistOf.{NetlistOf}
use Rattle.text_sections.specs.Denoted.{first_net, net_from, plan_from}
use Rattle.text_sections.specs.Refused.{IsRefusedBy, netlist_refusal}
use Rattle.question_answers.specs.Refused.{question_lines_refusal}
use Rattle.question_answers.specs.Sizes.{most_lines, size_of}
use Rattle.question_answers.proofs.Replies.{allowed_behind, refused_behind, refused_source, reply_over}
use Rattle.question_answers.proofs.Sized.{size_from}
use Rattle.question_answers.proofs.asking.question_lines.Goals as goal

pub returns-in_err-source-clause-refused : goal.returns-in_err-source-clause-refused
returns-in_err-source-clause-refused c =
    let p = err_from_is_err_and c.from_residual.result c.from_residual.ensures.1 in rw (p.1, p.2) (
    refused_source c.args.lines.now c.in_err-source.field-0.0 c.in_err-source.ensures.refused)

pub question_behind-requires-clause-small : goal.question_behind-requires-clause-small
question_behind-requires-clause-small c =
    let P : NetlistOf → Type 0 = λ n. size_of n.circuit.nodes ≤ most_lines in
    subst P (sym c.in_ok-source.ensures.exact) (omega (arith, size_from c.args.lines.now 0, c.requires.few))

pub returns-clause-answers : goal.returns-clause-answers
returns-clause-answers c =
    let lines = c.args.lines.now in
    let behind = c.behind_first.ensures.behind in
    reply_over c.question_behind.result c.in_ok-source.source (first_net lines) _ _ _ _ c.in_ok-source.ensures.exact (ap (net_from lines) behind) (ap (plan_from lines) behind)
    c.question_behind.ensures.answers

pub returns-clause-allowed : goal.returns-clause-allowed
returns-clause-allowed c =
    on_ok_weaker c.question_behind.result (λ allowed.
    allowed_behind c.args.lines.now c.behind_first.result c.behind_first.ensures.behind c.in_ok-source.ensures.allowed allowed)
    c.question_behind.ensures.allowed

pub returns-clause-refused : goal.returns-clause-refused
returns-clause-refused c =
    let lines = c.args.lines.now in
    IfErr-weaker c.question_behind.result (IsRefusedBy (netlist_refusal lines c.behind_first.result)) (IsRefusedBy (question_lines_refusal lines))
    (λ given refused. refused_behind lines c.behind_first.result given c.behind_first.ensures.behind c.in_ok-source.ensures.allowed refused)
    c.question_behind.ensures.refused
