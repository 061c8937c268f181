-- The text's bytes, then its lines.
use Rattle.std.proofs.Common.{List, IfOk, subst}
use Rattle.std.proofs.lemmas.Result.{err_from_is_err_and, IfErr-weaker, on_ok_weaker}
use Rattle.tsc_text.specs.TextLine.{TextLine}
use Rattle.text_sections.specs.Refused.{IsRefusedBy}
use Rattle.exact_answers.specs.ExactReply.{IsExactLinesReply}
use Rattle.netlist_answers.specs.Refused.{audit_lines_refusal, audit_refusal}
use Rattle.netlist_answers.proofs.AuditLemmas.{allowed_lines, refused_bytes, refused_lines}
use Rattle.exact_answers.proofs.answering.audit_exactly.Goals as goal

pub returns-in_err-lines-clause-refused : goal.returns-in_err-lines-clause-refused
returns-in_err-lines-clause-refused c =
    let p = err_from_is_err_and c.from_residual.result c.from_residual.ensures.1 in rw (p.1, p.2) (
    refused_bytes c.args.format c.args.text.now c.in_err-lines.field-0.0 c.in_err-lines.ensures.refused)

pub returns-clause-answers : goal.returns-clause-answers
returns-clause-answers c =
    let P : List TextLine → Type 0 = λ l. IfOk c.exact_lines.result (λ reply. IsExactLinesReply reply.ending c.args.format l reply.bytes) in
    subst P c.in_ok-lines.ensures.lines c.exact_lines.ensures.answers

pub returns-clause-allowed : goal.returns-clause-allowed
returns-clause-allowed c =
    on_ok_weaker c.exact_lines.result (λ allowed.
    allowed_lines c.args.format c.args.text.now c.in_ok-lines.lines c.in_ok-lines.ensures.lines c.in_ok-lines.ensures.allowed allowed)
    c.exact_lines.ensures.allowed

pub returns-clause-refused : goal.returns-clause-refused
returns-clause-refused c =
    IfErr-weaker c.exact_lines.result (IsRefusedBy (audit_lines_refusal c.args.format c.in_ok-lines.lines)) (IsRefusedBy (audit_refusal c.args.format c.args.text.now))
    (λ given refused. refused_lines c.args.format c.args.text.now c.in_ok-lines.lines given c.in_ok-lines.ensures.lines c.in_ok-lines.ensures.allowed refused)
    c.exact_lines.ensures.refused
