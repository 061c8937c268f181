-- The text, the table, the netlist.
use Rattle.std.proofs.Common.{◌<◌, ◌≤◌, ◌∙◌, length, ap, arith}
use Rattle.std.proofs.lemmas.Result.{err_from_is_err_and}
use Rattle.structure_laws.specs.LooseSource.{with_version}
use Rattle.tsc_synth.specs.CoverBound.{is_too_large}
use Rattle.pla_read.specs.Selections.{inputs_of, is_of, outputs_of}
use Rattle.pla_read.specs.declared.kinds.LineKind.TheVariants.{InputNames, OutputNames}
use Rattle.text_sections.specs.Denoted.{frees_in, frees_of, machine_lines, table_of, values_in, values_of}
use Rattle.text_sections.specs.Refused.{pla_lines_refusal}
use Rattle.answers.specs.Refused.{size_refusal}
use Rattle.answers.proofs.LooseLemmas.{allowed_size, refused_size, secure_in, secure_loose, tabled_in}
use Rattle.answers.proofs.SynthesisWritable.{network_writable}
use Rattle.answers.proofs.TableNames.{table_names_good}
use Rattle.answers.proofs.TableWritable.{values_apart, values_named, values_writable}
use Rattle.answers.proofs.TextRefused.{refused_bytes, refused_lines, text_allowed}
use Rattle.answers.proofs.loose_synthesis.loose_synthesis_in.Goals as goal

pub loose_synthesis_of-requires-clause-once : goal.loose_synthesis_of-requires-clause-once
loose_synthesis_of-requires-clause-once c =
    let text = c.in_ok-source.source in
    let T = table_of c.in_ok-lines.lines in
    let shown : 0 < length text.loose.value.circuit.outputs = c.nets-nets.ensures.checked.closed.some_output in
    let some : 1 ≤ T.outputs = omega (arith, shown, c.in_ok-source.ensures.count_outputs, c.in_ok-source.ensures.table_outputs) in
    values_apart text.inputs text.outputs T c.in_ok-source.ensures.table_inputs c.in_ok-source.ensures.table_outputs c.in_ok-source.ensures.distinct some
    text.loose.value (values_named (machine_lines c.in_ok-lines.lines) text.inputs text.outputs text.loose.value c.in_ok-source.ensures.inputs c.in_ok-source.ensures.outputs c.in_ok-source.ensures.value)

pub returns-in_err-lines-clause-refused : goal.returns-in_err-lines-clause-refused
returns-in_err-lines-clause-refused c =
    let p = err_from_is_err_and c.from_residual.result c.from_residual.ensures.1 in rw (p.1, p.2) (
    refused_bytes pla_lines_refusal c.args.text.now (size_refusal (is_too_large c.args.way (values_in c.args.text.now).circuit)) c.in_err-lines.field-0.0 c.in_err-lines.ensures.refused)

pub returns-in_err-source-clause-refused : goal.returns-in_err-source-clause-refused
returns-in_err-source-clause-refused c =
    let p = err_from_is_err_and c.from_residual-in_err-source.result c.from_residual-in_err-source.ensures.1 in rw (p.1, p.2) (
    refused_lines pla_lines_refusal c.args.text.now (size_refusal (is_too_large c.args.way (values_in c.args.text.now).circuit)) c.in_err-source.field-0.0 c.in_ok-lines.lines
    c.in_ok-lines.ensures.lines c.in_ok-lines.ensures.allowed c.in_err-source.ensures.refused)

pub returns-in_err-made-clause-refused : goal.returns-in_err-made-clause-refused
returns-in_err-made-clause-refused c =
    let lines = c.in_ok-lines.lines in
    let p = err_from_is_err_and c.from_residual-in_err-made.result c.from_residual-in_err-made.ensures.1 in rw (p.1, p.2) (
    refused_size c.args.way c.args.text.now c.in_ok-source.source.loose.value (c.in_ok-source.ensures.value ∙ ap values_of c.in_ok-lines.ensures.lines)
    (text_allowed pla_lines_refusal c.args.text.now lines c.in_ok-lines.ensures.lines c.in_ok-lines.ensures.allowed c.in_ok-source.ensures.allowed)
    c.in_err-made.field-0.0 c.in_err-made.ensures.refused)

pub returns-clause-allowed : goal.returns-clause-allowed
returns-clause-allowed c =
    allowed_size c.args.way c.args.text.now c.in_ok-source.source.loose.value (c.in_ok-source.ensures.value ∙ ap values_of c.in_ok-lines.ensures.lines)
    (text_allowed pla_lines_refusal c.args.text.now c.in_ok-lines.lines c.in_ok-lines.ensures.lines c.in_ok-lines.ensures.allowed c.in_ok-source.ensures.allowed)
    c.in_ok-made.ensures.fits

pub returns-clause-secure : goal.returns-clause-secure
returns-clause-secure c =
    let loose = c.in_ok-source.source.loose in
    let made = c.in_ok-made.made in
    secure_in c.args.way loose.value (values_in c.args.text.now) loose.free (frees_in c.args.text.now) made.net made.plan
    (c.in_ok-source.ensures.value ∙ ap values_of c.in_ok-lines.ensures.lines) (c.in_ok-source.ensures.free ∙ ap frees_of c.in_ok-lines.ensures.lines)
    (secure_loose c.sound_is_cell_secure.ensures.secure c.cell_secure_is_fault_secure.ensures.secure c.args.way loose.value loose.free made.net made.plan
    c.in_ok-made.ensures.secure c.in_ok-made.ensures.chosen c.in_ok-made.ensures.exact c.in_ok-made.ensures.version c.in_ok-made.ensures.code c.in_ok-made.ensures.covers)

pub returns-clause-tabled : goal.returns-clause-tabled
returns-clause-tabled c =
    let loose = c.in_ok-source.source.loose in
    tabled_in c.in_ok-lines.lines c.args.text.now loose.value loose.free c.in_ok-lines.ensures.lines c.in_ok-source.ensures.value c.in_ok-source.ensures.free
    c.in_ok-source.ensures.values c.in_ok-source.ensures.frees.answers

pub returns-clause-writable : goal.returns-clause-writable
returns-clause-writable c =
    let lines = c.in_ok-lines.lines in
    let L = machine_lines lines in
    let text = c.in_ok-source.source in
    let V = text.loose.value in
    let T = table_of lines in
    let made = c.in_ok-made.made in
    let shown : 0 < length V.circuit.outputs = c.nets-nets.ensures.checked.closed.some_output in
    let some : 1 ≤ T.outputs = omega (arith, shown, c.in_ok-source.ensures.count_outputs, c.in_ok-source.ensures.table_outputs) in
    let named = values_named L text.inputs text.outputs V c.in_ok-source.ensures.inputs c.in_ok-source.ensures.outputs c.in_ok-source.ensures.value in
    let good =
    table_names_good (is_of InputNames) (is_of OutputNames) (inputs_of L) (outputs_of L) c.args.text.now lines text.inputs text.outputs
    c.in_ok-lines.ensures.lines c.in_ok-lines.ensures.allowed c.in_ok-source.ensures.inputs c.in_ok-source.ensures.outputs
    c.in_ok-source.ensures.few_inputs c.in_ok-source.ensures.few_outputs c.in_ok-source.ensures.short c.in_ok-source.ensures.words in
    network_writable c.args.way V made.net (with_version 1 made.plan) c.nets-nets.ensures.checked
    (values_writable text.inputs text.outputs T c.in_ok-source.ensures.table_inputs c.in_ok-source.ensures.table_outputs c.in_ok-source.ensures.distinct some
    c.in_ok-source.ensures.wide c.in_ok-source.ensures.few_inputs c.in_ok-source.ensures.few_outputs V named good)
    c.in_ok-source.ensures.loose.value
    (values_apart text.inputs text.outputs T c.in_ok-source.ensures.table_inputs c.in_ok-source.ensures.table_outputs c.in_ok-source.ensures.distinct some V named)
    c.nets-made_nets.ensures.checked c.in_ok-made.ensures.chosen c.in_ok-made.ensures.exact c.in_ok-made.ensures.covers c.in_ok-made.ensures.fits
