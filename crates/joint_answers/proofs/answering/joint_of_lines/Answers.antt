-- The netlists, then their joint.
use Rattle.std.proofs.Common.{◌≡◌, ◌<◌, ◌≤◌, List, All, IfOk, length, subst}
use Rattle.std.proofs.lemmas.Result.{IfErr-weaker, err_from_is_err_and, on_ok_weaker}
use Rattle.tsc_net.proofs.ResultLemmas.{on_ok}
use Rattle.module_join.specs.JoinParts.{parts_as}
use Rattle.module_join.specs.JointNet.{joint_clock}
use Rattle.module_join.specs.declared.part.Part.{Part}
use Rattle.text_sections.specs.Refused.{IsRefusedBy}
use Rattle.text_sections.proofs.SectionLemmas.{refused_first}
use Rattle.part_reading.specs.PartClocks.{AreClockedBy}
use Rattle.part_reading.specs.Parts.{IsPartOf, parts_of}
use Rattle.joint_answers.specs.JointParts.{join_lines_refusal, joint_refusal}
use Rattle.joint_answers.proofs.JointLemmas.{allowed_joint, are_planned, refused_joint}
use Rattle.joint_answers.proofs.answering.joint_of_lines.Goals as goal

pub joint_of_parts-requires-clause-planned : goal.joint_of_parts-requires-clause-planned
joint_of_parts-requires-clause-planned c = are_planned c.plans_show_netlists.ensures.read c.args.lines.now c.in_ok-parts.parts c.in_ok-parts.ensures.planned

pub returns-in_err-parts-clause-refused : goal.returns-in_err-parts-clause-refused
returns-in_err-parts-clause-refused c =
    let p = err_from_is_err_and c.from_residual.result c.from_residual.ensures.1 in rw (p.1, p.2) (refused_first _ _ c.in_err-parts.field-0.0 c.in_err-parts.ensures.refused)

pub returns-clause-joint : goal.returns-clause-joint
returns-clause-joint c =
    let P : List Part → Type 0 = λ p. IfOk c.joint_of_parts.result (λ joint. joint ≡ parts_as p) in
    subst P c.in_ok-parts.ensures.exact c.joint_of_parts.ensures.joint

pub returns-clause-planned : goal.returns-clause-planned
returns-clause-planned c =
    let lines = c.args.lines.now in
    on_ok c.joint_of_parts.result (All (IsPartOf lines) (parts_of lines)) (subst (All (IsPartOf lines)) c.in_ok-parts.ensures.exact c.in_ok-parts.ensures.planned)

pub returns-clause-some : goal.returns-clause-some
returns-clause-some c =
    let P : List Part → Type 0 = λ p. 0 < length p in
    on_ok c.joint_of_parts.result (0 < length (parts_of c.args.lines.now)) (subst P c.in_ok-parts.ensures.exact c.in_ok-parts.ensures.some)

pub returns-clause-few : goal.returns-clause-few
returns-clause-few c =
    let P : List Part → Type 0 = λ p. length p ≤ 64 in
    on_ok c.joint_of_parts.result (length (parts_of c.args.lines.now) ≤ 64) (subst P c.in_ok-parts.ensures.exact c.in_ok-parts.ensures.few)

pub returns-clause-clocked : goal.returns-clause-clocked
returns-clause-clocked c =
    let P : List Part → Type 0 = λ p. AreClockedBy (joint_clock (parts_as p)) (parts_as p) in
    on_ok c.joint_of_parts.result (P (parts_of c.args.lines.now)) (subst P c.in_ok-parts.ensures.exact c.in_ok-parts.ensures.clocked)

pub returns-clause-allowed : goal.returns-clause-allowed
returns-clause-allowed c =
    on_ok_weaker c.joint_of_parts.result (λ allowed. allowed_joint c.args.lines.now c.in_ok-parts.parts c.in_ok-parts.ensures.exact c.in_ok-parts.ensures.allowed allowed)
    c.joint_of_parts.ensures.allowed

pub returns-clause-refused : goal.returns-clause-refused
returns-clause-refused c =
    IfErr-weaker c.joint_of_parts.result (IsRefusedBy (joint_refusal (parts_as c.in_ok-parts.parts))) (IsRefusedBy (join_lines_refusal c.args.lines.now))
    (λ given refused. refused_joint c.args.lines.now c.in_ok-parts.parts c.in_ok-parts.ensures.exact c.in_ok-parts.ensures.allowed given refused)
    c.joint_of_parts.ensures.refused
