-- The netlist, then the steps after it.
use Rattle.std.proofs.Common.{arith}
use Rattle.std.proofs.lemmas.Result.{err_from_is_err_and}
use Rattle.blif_read.specs.RegisterFault.{lists_states}
use Rattle.blif_read.specs.declared.kinds.Kind.TheVariants.{AnyPlan}
use Rattle.commands.specs.declared.sim_words.SimFault.TheVariants.{NoFault}
use Rattle.text_sections.specs.Denoted.{first_lines, first_net, lines_behind}
use Rattle.text_sections.specs.Refused.{first_refusal}
use Rattle.text_sections.proofs.SectionLemmas.{behind_within, refused_first}
use Rattle.netlist_answers.specs.Refused.{run_refusal}
use Rattle.netlist_answers.proofs.GradeLemmas.{allowed_steps, is_grade_list, refused_steps, steps_below}
use Rattle.netlist_answers.proofs.SimLemmas.{any_plan_nets}
use Rattle.netlist_answers.proofs.grading.graded_lines.Goals as goal

pub returns-in_err-read-clause-refused : goal.returns-in_err-read-clause-refused
returns-in_err-read-clause-refused c =
    let lines = c.args.lines.now in
    let p = err_from_is_err_and c.from_residual.result c.from_residual.ensures.1 in rw (p.1, p.2) (
    refused_first (first_refusal AnyPlan lines) (run_refusal NoFault (first_net lines) (lines_behind lines)) c.in_err-read.field-0.0 c.in_err-read.ensures.refused)

pub step_lines-requires : goal.step_lines-requires
step_lines-requires c = record { within = behind_within c.args.lines.now 0 c.section-from.result c.section-from.ensures.section (omega arith) }

pub returns-in_err-steps-clause-refused : goal.returns-in_err-steps-clause-refused
returns-in_err-steps-clause-refused c =
    let p = err_from_is_err_and c.from_residual-in_err-steps.result c.from_residual-in_err-steps.ensures.1 in rw (p.1, p.2) (
    refused_steps c.args.lines.now c.in_ok-read.read.net c.section-from.result c.inputs.result c.in_ok-read.ensures.exact c.section-from.ensures.section
    c.inputs.ensures.count c.in_ok-read.ensures.allowed c.in_err-steps.field-0.0 c.in_err-steps.ensures.refused)

pub graded_over-requires-clause-plan : goal.graded_over-requires-clause-plan
graded_over-requires-clause-plan c =
    any_plan_nets (lists_states (first_lines c.args.lines.now)) c.in_ok-read.read.net.circuit c.in_ok-read.read.plan c.in_ok-read.ensures.of_net

pub graded_over-requires-clause-short : goal.graded_over-requires-clause-short
graded_over-requires-clause-short c =
    steps_below c.inputs.result c.section-from.result.next c.args.lines.now c.in_ok-steps.steps c.in_ok-steps.ensures.steps c.in_ok-steps.ensures.allowed c.len-lines.ensures.words

pub returns-in-Ok-clause-answers : goal.returns-in-Ok-clause-answers
returns-in-Ok-clause-answers c =
    rw c.in-Ok.ensures.net (
    is_grade_list c.args.lines.now c.in_ok-read.read.net c.in_ok-read.read.plan c.section-from.result c.in_ok-read.ensures.exact c.in_ok-read.ensures.plan
    c.section-from.ensures.section c.inputs.result c.in_ok-steps.steps c.in-Ok.graded.grades c.inputs.ensures.count c.in_ok-steps.ensures.steps c.in-Ok.ensures.grades)

pub returns-in-Ok-clause-allowed : goal.returns-in-Ok-clause-allowed
returns-in-Ok-clause-allowed c =
    allowed_steps c.args.lines.now c.in_ok-read.read.net c.section-from.result c.inputs.result c.in_ok-read.ensures.exact c.section-from.ensures.section
    c.inputs.ensures.count c.in_ok-read.ensures.allowed c.in_ok-steps.ensures.allowed
