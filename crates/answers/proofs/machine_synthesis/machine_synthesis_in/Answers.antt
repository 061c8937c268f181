-- The text, the machine, the netlist.
use Rattle.std.proofs.Common.{◌∙◌, ◌≤◌, ap, arith}
use Rattle.std.proofs.lemmas.Result.{err_from_is_err_and}
use Rattle.kiss_read.specs.NamesText.{input_names, output_names}
use Rattle.text_sections.specs.Denoted.{machine_in, machine_lines}
use Rattle.commands.specs.Words.{code_of}
use Rattle.text_sections.proofs.MachineLemmas.{table_in}
use Rattle.answers.proofs.MachineLemmas.{refused_limits, secure_in, secure_machine}
use Rattle.answers.proofs.TextRefused.{refused_bytes, refused_lines, text_allowed}
use Rattle.answers.specs.Refused.{limits_refusal}
use Rattle.text_sections.specs.Refused.{machine_lines_refusal}
use Rattle.answers.proofs.SynthesisWritable.{machine_text_writable}
use Rattle.answers.proofs.machine_synthesis.machine_synthesis_in.Goals as goal

pub returns-in_err-lines-clause-refused : goal.returns-in_err-lines-clause-refused
returns-in_err-lines-clause-refused c =
    let p = err_from_is_err_and c.from_residual.result c.from_residual.ensures.1 in rw (p.1, p.2) (
    refused_bytes machine_lines_refusal c.args.text.now (limits_refusal (code_of c.args.code) (machine_in c.args.text.now)) c.in_err-lines.field-0.0 c.in_err-lines.ensures.refused)

pub returns-in_err-source-clause-refused : goal.returns-in_err-source-clause-refused
returns-in_err-source-clause-refused c =
    let p = err_from_is_err_and c.from_residual-in_err-source.result c.from_residual-in_err-source.ensures.1 in rw (p.1, p.2) (
    refused_lines machine_lines_refusal c.args.text.now (limits_refusal (code_of c.args.code) (machine_in c.args.text.now)) c.in_err-source.field-0.0 c.in_ok-lines.lines
    c.in_ok-lines.ensures.lines c.in_ok-lines.ensures.allowed c.in_err-source.ensures.refused)

pub returns-in_err-made-clause-refused : goal.returns-in_err-made-clause-refused
returns-in_err-made-clause-refused c =
    let code = code_of c.args.code in
    let text = c.args.text.now in
    let lines = c.in_ok-lines.lines in
    let source = c.in_ok-source.source in
    let p = err_from_is_err_and c.from_residual-in_err-made.result c.from_residual-in_err-made.ensures.1 in rw (p.1, p.2) (
    refused_limits code text source.machine.table c.in_err-made.field-0.0
    (table_in lines text source.machine c.in_ok-source.ensures.machine c.in_ok-lines.ensures.lines)
    (text_allowed machine_lines_refusal text lines c.in_ok-lines.ensures.lines c.in_ok-lines.ensures.allowed c.in_ok-source.ensures.allowed)
    c.in_err-made.ensures.refused)

pub returns-clause-writable : goal.returns-clause-writable
returns-clause-writable c =
    let source = c.in_ok-source.source in
    let made = c.in_ok-made.made in
    let M = source.machine.table in
    let few_inputs : M.inputs ≤ 64 = (let same = c.inputs-inputs.ensures.inputs in let few = c.inputs-inputs.ensures.few in omega (arith, same, few)) in
    let few_outputs : M.outputs ≤ 64 = (let same = c.outputs-outputs.ensures.outputs in let few = c.outputs-outputs.ensures.few in omega (arith, same, few)) in
    machine_text_writable (code_of c.args.code) c.args.text.now c.in_ok-lines.lines M source.inputs source.outputs made.net made.plan
    c.in_ok-lines.ensures.lines c.in_ok-lines.ensures.allowed c.in_ok-source.ensures.inputs c.in_ok-source.ensures.outputs
    c.in_ok-source.ensures.count_inputs c.in_ok-source.ensures.count_outputs few_inputs few_outputs c.in_ok-source.ensures.short c.in_ok-source.ensures.words
    c.nets-nets.ensures.checked c.in_ok-made.ensures.secure c.in_ok-made.ensures.exact c.in_ok-made.ensures.covers c.in_ok-made.ensures.fits

pub returns-clause-secure : goal.returns-clause-secure
returns-clause-secure c =
    let code = code_of c.args.code in
    let text = c.args.text.now in
    let lines = c.in_ok-lines.lines in
    let source = c.in_ok-source.source in
    let made = c.in_ok-made.made in
    let M = source.machine.table in
    secure_in code text M source.inputs source.outputs made.net made.plan
    (table_in lines text source.machine c.in_ok-source.ensures.machine c.in_ok-lines.ensures.lines)
    (c.in_ok-source.ensures.inputs ∙ ap (λ l. input_names (machine_lines l)) c.in_ok-lines.ensures.lines)
    (c.in_ok-source.ensures.outputs ∙ ap (λ l. output_names (machine_lines l)) c.in_ok-lines.ensures.lines)
    (secure_machine c.sound_is_cell_secure.ensures.secure c.cell_secure_is_fault_secure.ensures.secure code M source.inputs source.outputs made.net made.plan
    c.in_ok-made.ensures.secure c.in_ok-made.ensures.exact c.in_ok-made.ensures.code c.in_ok-made.ensures.covers)
