-- The text's bytes, then its lines.
use Rattle.std.proofs.Common.{List, IfOk, subst}
use Rattle.std.proofs.lemmas.Result.{err_from_is_err_and, IfErr-weaker, on_ok_weaker}
use Rattle.tsc_text.specs.TextLine.{TextLine}
use Rattle.text_sections.specs.Refused.{IsRefusedBy}
use Rattle.proof_answers.specs.ProofReply.{IsProofLinesReply}
use Rattle.proof_answers.specs.Refused.{proof_lines_refusal, proof_refusal}
use Rattle.proof_answers.proofs.Few.{few_lines}
use Rattle.proof_answers.proofs.Replies.{allowed_lines, refused_bytes, refused_lines}
use Rattle.proof_answers.proofs.auditing.audit_proof.Goals as goal

pub returns-in_err-lines-clause-refused : goal.returns-in_err-lines-clause-refused
returns-in_err-lines-clause-refused c =
    let p = err_from_is_err_and c.from_residual.result c.from_residual.ensures.1 in rw (p.1, p.2) (
    refused_bytes c.args.text.now c.in_err-lines.field-0.0 c.in_err-lines.ensures.refused)

pub proof_lines-requires : goal.proof_lines-requires
proof_lines-requires c = record { few = few_lines c.args.text.now c.in_ok-lines.lines c.in_ok-lines.ensures.lines c.requires.short }

pub returns-clause-answers : goal.returns-clause-answers
returns-clause-answers c =
    let P : List TextLine → Type 0 = λ l. IfOk c.proof_lines.result (λ reply. IsProofLinesReply reply.ending l reply.bytes) in
    subst P c.in_ok-lines.ensures.lines c.proof_lines.ensures.answers

pub returns-clause-allowed : goal.returns-clause-allowed
returns-clause-allowed c =
    on_ok_weaker c.proof_lines.result (λ allowed.
    allowed_lines c.args.text.now c.in_ok-lines.lines c.in_ok-lines.ensures.lines c.in_ok-lines.ensures.allowed allowed)
    c.proof_lines.ensures.allowed

pub returns-clause-refused : goal.returns-clause-refused
returns-clause-refused c =
    IfErr-weaker c.proof_lines.result (IsRefusedBy (proof_lines_refusal c.in_ok-lines.lines)) (IsRefusedBy (proof_refusal c.args.text.now))
    (λ given refused. refused_lines c.args.text.now c.in_ok-lines.lines given c.in_ok-lines.ensures.lines c.in_ok-lines.ensures.allowed refused)
    c.proof_lines.ensures.refused
