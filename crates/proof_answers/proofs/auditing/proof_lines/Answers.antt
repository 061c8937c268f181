-- The network, then what stands after it.
use Rattle.std.proofs.lemmas.Result.{err_from_is_err_and, IfErr-weaker, on_ok_weaker}
use Rattle.text_sections.specs.Refused.{IsRefusedBy}
use Rattle.proof_answers.specs.Refused.{proof_lines_refusal, proof_refusal_from}
use Rattle.proof_answers.proofs.Few.{small_net}
use Rattle.proof_answers.proofs.Replies.{allowed_from, refused_from, refused_source, reply_from}
use Rattle.proof_answers.proofs.auditing.proof_lines.Goals as goal

pub returns-in_err-source-clause-refused : goal.returns-in_err-source-clause-refused
returns-in_err-source-clause-refused c =
    let p = err_from_is_err_and c.from_residual.result c.from_residual.ensures.1 in rw (p.1, p.2) (
    refused_source c.args.lines.now c.in_err-source.field-0.0 c.in_err-source.ensures.refused)

pub proof_from-requires-clause-small_source : goal.proof_from-requires-clause-small_source
proof_from-requires-clause-small_source c = small_net c.args.lines.now 0 c.in_ok-source.source c.in_ok-source.ensures.exact c.requires.few

pub returns-clause-answers : goal.returns-clause-answers
returns-clause-answers c =
    reply_from c.proof_from.result c.args.lines.now c.in_ok-source.source c.behind_first.result c.in_ok-source.ensures.exact c.behind_first.ensures.behind c.proof_from.ensures.answers

pub returns-clause-allowed : goal.returns-clause-allowed
returns-clause-allowed c =
    on_ok_weaker c.proof_from.result (λ allowed.
    allowed_from c.args.lines.now c.in_ok-source.source c.behind_first.result c.in_ok-source.ensures.exact c.behind_first.ensures.behind c.in_ok-source.ensures.allowed allowed)
    c.proof_from.ensures.allowed

pub returns-clause-refused : goal.returns-clause-refused
returns-clause-refused c =
    let lines = c.args.lines.now in
    IfErr-weaker c.proof_from.result (IsRefusedBy (proof_refusal_from c.in_ok-source.source.circuit lines c.behind_first.result)) (IsRefusedBy (proof_lines_refusal lines))
    (λ given refused.
    refused_from lines c.in_ok-source.source c.behind_first.result given c.in_ok-source.ensures.exact c.behind_first.ensures.behind c.in_ok-source.ensures.allowed refused)
    c.proof_from.ensures.refused
