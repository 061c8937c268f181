use Rattle.std.proofs.lemmas.Result.{err_from_is_err_and}
use Rattle.blif_read.specs.declared.kinds.Kind.TheVariants.{AnyPlan}
use Rattle.text_sections.proofs.SectionLemmas.{allowed_lines, refused_first, refused_lines}
use Rattle.text_sections.proofs.section.read_any_netlist.Goals as goal

pub returns-in_err-lines-clause-refused : goal.returns-in_err-lines-clause-refused
returns-in_err-lines-clause-refused c =
    let p = err_from_is_err_and c.from_residual.result c.from_residual.ensures.1 in rw (p.1, p.2) (refused_first _ _ c.in_err-lines.field-0.0 c.in_err-lines.ensures.refused)

pub returns-in_err-net-clause-refused : goal.returns-in_err-net-clause-refused
returns-in_err-net-clause-refused c =
    let p = err_from_is_err_and c.from_residual-in_err-net.result c.from_residual-in_err-net.ensures.1 in rw (p.1, p.2) (
    refused_lines AnyPlan c.args.text.now c.in_ok-lines.lines c.in_err-net.field-0.0 c.in_ok-lines.ensures.lines c.in_ok-lines.ensures.allowed c.in_err-net.ensures.refused)

pub returns-clause-allowed : goal.returns-clause-allowed
returns-clause-allowed c =
    allowed_lines AnyPlan c.args.text.now c.in_ok-lines.lines c.in_ok-lines.ensures.lines c.in_ok-lines.ensures.allowed c.in_ok-net.ensures.allowed
