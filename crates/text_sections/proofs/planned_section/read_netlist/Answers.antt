use Rattle.std.proofs.lemmas.Result.{err_from_is_err_and}
use Rattle.text_sections.proofs.SectionLemmas.{refused_first}
use Rattle.text_sections.proofs.StateLemmas.{allowed_netlist_lines, refused_netlist_lines}
use Rattle.text_sections.proofs.planned_section.read_netlist.Goals as goal

pub returns-in_err-lines-clause-refused : goal.returns-in_err-lines-clause-refused
returns-in_err-lines-clause-refused c =
    let p = err_from_is_err_and c.from_residual.result c.from_residual.ensures.1 in rw (p.1, p.2) (refused_first _ _ c.in_err-lines.field-0.0 c.in_err-lines.ensures.refused)

pub returns-in_err-read-clause-refused : goal.returns-in_err-read-clause-refused
returns-in_err-read-clause-refused c =
    let p = err_from_is_err_and c.from_residual-in_err-read.result c.from_residual-in_err-read.ensures.1 in rw (p.1, p.2) (
    refused_netlist_lines c.args.text.now c.in_ok-lines.lines c.in_err-read.field-0.0 c.in_ok-lines.ensures.lines c.in_ok-lines.ensures.allowed c.in_err-read.ensures.refused)

pub returns-clause-allowed : goal.returns-clause-allowed
returns-clause-allowed c =
    allowed_netlist_lines c.args.text.now c.in_ok-lines.lines c.in_ok-lines.ensures.lines c.in_ok-lines.ensures.allowed c.in_ok-read.ensures.allowed
