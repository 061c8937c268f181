-- The text's bytes, then its lines.
use Rattle.std.proofs.Common.{List, IfOk, subst}
use Rattle.std.proofs.lemmas.Result.{err_from_is_err_and, IfErr-weaker, on_ok_weaker}
use Rattle.tsc_text.specs.Bytes.{bad_line}
use Rattle.tsc_text.specs.Lines.{lines_of}
use Rattle.tsc_text.specs.TextLine.{TextLine}
use Rattle.commands.specs.declared.sim_words.SimFault.TheVariants.{NoFault}
use Rattle.text_sections.specs.Refused.{IsRefusedBy, byte_refusal}
use Rattle.text_sections.proofs.SectionLemmas.{refused_first}
use Rattle.netlist_answers.specs.Answers.{IsGradeListOf}
use Rattle.netlist_answers.specs.GradeText.{grade_list}
use Rattle.netlist_answers.specs.Refused.{sim_lines_refusal, sim_refusal}
use Rattle.netlist_answers.proofs.SimLemmas.{allowed_sim, refused_sim}
use Rattle.netlist_answers.proofs.grading.graded_netlist.Goals as goal

pub returns-in_err-lines-clause-refused : goal.returns-in_err-lines-clause-refused
returns-in_err-lines-clause-refused c =
    let text = c.args.text.now in
    let p = err_from_is_err_and c.from_residual.result c.from_residual.ensures.1 in rw (p.1, p.2) (
    refused_first (byte_refusal (bad_line text)) (sim_lines_refusal NoFault (lines_of text)) c.in_err-lines.field-0.0 c.in_err-lines.ensures.refused)

pub returns-clause-answers : goal.returns-clause-answers
returns-clause-answers c =
    let P : List TextLine → Type 0 = λ l. IfOk c.graded_lines.result (λ graded. IsGradeListOf l (grade_list graded.net graded.grades)) in
    subst P c.in_ok-lines.ensures.lines c.graded_lines.ensures.answers

pub returns-clause-allowed : goal.returns-clause-allowed
returns-clause-allowed c =
    on_ok_weaker c.graded_lines.result (λ allowed. allowed_sim NoFault c.args.text.now c.in_ok-lines.lines c.in_ok-lines.ensures.lines c.in_ok-lines.ensures.allowed allowed)
    c.graded_lines.ensures.allowed

pub returns-clause-refused : goal.returns-clause-refused
returns-clause-refused c =
    IfErr-weaker c.graded_lines.result (IsRefusedBy (sim_lines_refusal NoFault c.in_ok-lines.lines)) (IsRefusedBy (sim_refusal NoFault c.args.text.now))
    (λ given refused. refused_sim NoFault c.args.text.now c.in_ok-lines.lines given c.in_ok-lines.ensures.lines c.in_ok-lines.ensures.allowed refused)
    c.graded_lines.ensures.refused
