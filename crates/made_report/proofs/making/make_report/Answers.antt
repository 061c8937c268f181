-- Nothing refuses the text of a number.
use Rattle.std.proofs.Common.{◌≡◌, ◌∙◌, ap, None}
use Rattle.std.proofs.lemmas.Result.{err_from_is_err_and}
use Rattle.tsc_text.specs.Lines.{lines_of}
use Rattle.machine_maker.specs.MadeText.{made_text}
use Rattle.text_sections.specs.Denoted.{machine_in}
use Rattle.text_sections.specs.Refused.{machine_lines_refusal}
use Rattle.made_report.specs.Made.{machine_limits_refusal, report_of}
use Rattle.text_sections.proofs.MachineLemmas.{table_in}
use Rattle.made_report.proofs.MadeLemmas.{limits, lines_allowed, only_memory}
use Rattle.made_report.proofs.making.make_report.Goals as goal

pub returns-in_err-source-clause-memory : goal.returns-in_err-source-clause-memory
returns-in_err-source-clause-memory c =
    let made = made_text c.args.number in
    let allowed : machine_lines_refusal c.in_ok-lines.lines ≡ None =
    ap machine_lines_refusal (c.in_ok-lines.ensures.lines ∙ ap lines_of c.in-Ok.ensures.text) ∙ lines_allowed made (c.made_texts_are_machines.ensures.made c.args.number) in
    let p = err_from_is_err_and c.from_residual-in_err-source.result c.from_residual-in_err-source.ensures.1 in rw (p.1, p.2) (
    only_memory (machine_lines_refusal c.in_ok-lines.lines) c.in_err-source.field-0.0 allowed c.in_err-source.ensures.refused)

pub returns-in_err-report-clause-memory : goal.returns-in_err-report-clause-memory
returns-in_err-report-clause-memory c =
    let text = c.in-Ok.text in
    let source = c.in_ok-source.source in
    let table : source.machine.table ≡ machine_in (made_text c.args.number) =
    table_in c.in_ok-lines.lines text source.machine c.in_ok-source.ensures.machine c.in_ok-lines.ensures.lines ∙ ap machine_in c.in-Ok.ensures.text in
    let p = err_from_is_err_and c.from_residual-in_err-report.result c.from_residual-in_err-report.ensures.1 in rw (p.1, p.2) (
    only_memory (machine_limits_refusal source.machine.table) c.in_err-report.field-0.0
    (ap machine_limits_refusal table ∙ limits (made_text c.args.number) (c.made_texts_are_machines.ensures.made c.args.number))
    c.in_err-report.ensures.refused)

pub returns-clause-report : goal.returns-clause-report
returns-clause-report c =
    let text = c.in-Ok.text in
    let source = c.in_ok-source.source in
    c.in_ok-report.ensures.report
    ∙ ap (report_of c.args.number)
    (table_in c.in_ok-lines.lines text source.machine c.in_ok-source.ensures.machine c.in_ok-lines.ensures.lines ∙ ap machine_in c.in-Ok.ensures.text)
