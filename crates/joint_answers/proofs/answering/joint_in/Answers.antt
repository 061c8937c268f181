-- The text's bytes, then its lines.
use Rattle.std.proofs.Common.{◌≡◌, List, IfOk, subst}
use Rattle.std.proofs.lemmas.Result.{IfErr-weaker, err_from_is_err_and, on_ok_weaker}
use Rattle.tsc_text.specs.TextLine.{TextLine}
use Rattle.module_join.specs.JoinParts.{parts_as}
use Rattle.text_sections.specs.Refused.{IsRefusedBy}
use Rattle.text_sections.proofs.SectionLemmas.{refused_first}
use Rattle.part_reading.specs.Parts.{parts_of}
use Rattle.joint_answers.specs.JointParts.{join_lines_refusal, join_refusal}
use Rattle.joint_answers.proofs.JointLemmas.{AreTold, allowed_lines, answered, refused_lines}
use Rattle.joint_answers.proofs.answering.joint_in.Goals as goal

pub returns-in_err-lines-clause-refused : goal.returns-in_err-lines-clause-refused
returns-in_err-lines-clause-refused c =
    let p = err_from_is_err_and c.from_residual.result c.from_residual.ensures.1 in rw (p.1, p.2) (refused_first _ _ c.in_err-lines.field-0.0 c.in_err-lines.ensures.refused)

pub returns-clause-joint : goal.returns-clause-joint
returns-clause-joint c =
    let P : List TextLine → Type 0 = λ l. IfOk c.joint_of_lines.result (λ joint. joint ≡ parts_as (parts_of l)) in
    subst P c.in_ok-lines.ensures.lines c.joint_of_lines.ensures.joint

pub returns-clause-answers : goal.returns-clause-answers
returns-clause-answers c =
    let known : AreTold = record {
      can = c.read_nets_are_writable.ensures.tellable;
      shows = c.plans_show_netlists.ensures.read;
      tells = c.joint_texts_are_told.ensures.told;
      cells = c.joint_texts_are_cell_secure.ensures.secure;
      secure = c.joint_texts_are_fault_secure.ensures.secure;
      cells_for_sources = c.joint_texts_are_secure_for_sources.ensures.secure;
      secure_for_sources = c.joint_texts_are_fault_secure_for_sources.ensures.secure;
    } in
    answered known c.args.text.now c.in_ok-lines.lines c.in_ok-lines.ensures.lines c.in_ok-lines.ensures.allowed c.joint_of_lines.result
    c.joint_of_lines.ensures.planned c.joint_of_lines.ensures.some c.joint_of_lines.ensures.few c.joint_of_lines.ensures.clocked c.joint_of_lines.ensures.joint

pub returns-clause-allowed : goal.returns-clause-allowed
returns-clause-allowed c =
    on_ok_weaker c.joint_of_lines.result (λ allowed. allowed_lines c.args.text.now c.in_ok-lines.lines c.in_ok-lines.ensures.lines c.in_ok-lines.ensures.allowed allowed)
    c.joint_of_lines.ensures.allowed

pub returns-clause-refused : goal.returns-clause-refused
returns-clause-refused c =
    IfErr-weaker c.joint_of_lines.result (IsRefusedBy (join_lines_refusal c.in_ok-lines.lines)) (IsRefusedBy (join_refusal c.args.text.now))
    (λ given refused. refused_lines c.args.text.now c.in_ok-lines.lines given c.in_ok-lines.ensures.lines c.in_ok-lines.ensures.allowed refused)
    c.joint_of_lines.ensures.refused
