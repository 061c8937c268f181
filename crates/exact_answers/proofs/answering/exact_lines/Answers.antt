-- The source, then what stands behind it.
use Rattle.std.proofs.Common.{ap}
use Rattle.std.proofs.lemmas.Result.{err_from_is_err_and, IfErr-weaker, on_ok_weaker}
use Rattle.text_sections.specs.Denoted.{behind_source, net_from, plan_from, source_of}
use Rattle.text_sections.specs.Refused.{IsRefusedBy, source_refusal}
use Rattle.text_sections.proofs.SectionLemmas.{refused_first}
use Rattle.netlist_answers.specs.Audited.{logic_in}
use Rattle.netlist_answers.specs.Refused.{audit_behind_refusal, audit_lines_refusal}
use Rattle.netlist_answers.proofs.AuditLemmas.{allowed_behind, refused_behind}
use Rattle.exact_answers.proofs.ExactLemmas.{reply_over}
use Rattle.exact_answers.proofs.answering.exact_lines.Goals as goal

pub returns-in_err-source-clause-refused : goal.returns-in_err-source-clause-refused
returns-in_err-source-clause-refused c =
    let lines = c.args.lines.now in
    let p = err_from_is_err_and c.from_residual.result c.from_residual.ensures.1 in rw (p.1, p.2) (
    refused_first (source_refusal c.args.format lines) (audit_behind_refusal lines (behind_source c.args.format lines) (source_of c.args.format lines)) c.in_err-source.field-0.0 c.in_err-source.ensures.refused)

pub returns-clause-answers : goal.returns-clause-answers
returns-clause-answers c =
    let lines = c.args.lines.now in
    let behind = c.behind_source.ensures.behind in
    reply_over c.exact_behind.result (logic_in c.in_ok-source.source) (source_of c.args.format lines) _ _ _ _ c.in_ok-source.ensures.source (ap (net_from lines) behind) (ap (plan_from lines) behind)
    c.exact_behind.ensures.answers

pub returns-clause-allowed : goal.returns-clause-allowed
returns-clause-allowed c =
    on_ok_weaker c.exact_behind.result (λ allowed.
    allowed_behind c.args.format c.args.lines.now c.behind_source.result (logic_in c.in_ok-source.source) c.behind_source.ensures.behind c.in_ok-source.ensures.source c.in_ok-source.ensures.allowed allowed)
    c.exact_behind.ensures.allowed

pub returns-clause-refused : goal.returns-clause-refused
returns-clause-refused c =
    let lines = c.args.lines.now in
    let M = logic_in c.in_ok-source.source in
    IfErr-weaker c.exact_behind.result (IsRefusedBy (audit_behind_refusal lines c.behind_source.result M)) (IsRefusedBy (audit_lines_refusal c.args.format lines))
    (λ given refused. refused_behind c.args.format lines c.behind_source.result M given c.behind_source.ensures.behind c.in_ok-source.ensures.source c.in_ok-source.ensures.allowed refused)
    c.exact_behind.ensures.refused
