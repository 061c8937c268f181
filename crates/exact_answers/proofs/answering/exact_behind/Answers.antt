-- The netlist, then the number of points.
use Rattle.std.proofs.Common.{refl}
use Rattle.std.proofs.lemmas.Result.{err_from_is_err_and, IfErr-weaker, on_ok_weaker}
use Rattle.text_sections.specs.Refused.{IsRefusedBy, netlist_refusal}
use Rattle.text_sections.proofs.SectionLemmas.{allowed_both, refused_first, refused_later}
use Rattle.netlist_answers.specs.Audited.{logic_in}
use Rattle.netlist_answers.specs.Refused.{audit_behind_refusal, audit_points_refusal, has_too_many_audit_points}
use Rattle.exact_answers.proofs.ExactLemmas.{reply_over}
use Rattle.exact_answers.proofs.answering.exact_behind.Goals as goal

pub returns-in_err-read-clause-refused : goal.returns-in_err-read-clause-refused
returns-in_err-read-clause-refused c =
    let M = logic_in c.args.source.now in
    let p = err_from_is_err_and c.from_residual.result c.from_residual.ensures.1 in rw (p.1, p.2) (
    refused_first (netlist_refusal c.args.lines.now c.args.from) (audit_points_refusal (has_too_many_audit_points M)) c.in_err-read.field-0.0 c.in_err-read.ensures.refused)

pub returns-clause-answers : goal.returns-clause-answers
returns-clause-answers c =
    let M = logic_in c.args.source.now in
    reply_over c.exact_read.result M M c.in_ok-read.read.net _ c.in_ok-read.read.plan _ refl c.in_ok-read.ensures.net c.in_ok-read.ensures.plan c.exact_read.ensures.answers

pub returns-clause-allowed : goal.returns-clause-allowed
returns-clause-allowed c =
    let points = audit_points_refusal (has_too_many_audit_points (logic_in c.args.source.now)) in
    on_ok_weaker c.exact_read.result (λ few. allowed_both (netlist_refusal c.args.lines.now c.args.from) points c.in_ok-read.ensures.allowed few) c.exact_read.ensures.few

pub returns-clause-refused : goal.returns-clause-refused
returns-clause-refused c =
    let M = logic_in c.args.source.now in
    let points = audit_points_refusal (has_too_many_audit_points M) in
    IfErr-weaker c.exact_read.result (IsRefusedBy points) (IsRefusedBy (audit_behind_refusal c.args.lines.now c.args.from M))
    (λ given refused. refused_later (netlist_refusal c.args.lines.now c.args.from) points given c.in_ok-read.ensures.allowed refused) c.exact_read.ensures.refused
