use Rattle.std.proofs.Common.{arith, subst, sym}
use Rattle.std.proofs.lemmas.Result.{err_from_is_err_and}
use Rattle.blif_read.specs.declared.kinds.Kind.TheVariants.{Registers}
use Rattle.blif_write.specs.Told.{IsToldClock}
use Rattle.text_sections.specs.Denoted.{first_section}
use Rattle.text_sections.proofs.SectionLemmas.{allowed_lines, refused_first, refused_lines, section_allowed}
use Rattle.text_sections.proofs.section.read_registers.Goals as goal

pub returns-in_err-lines-clause-refused : goal.returns-in_err-lines-clause-refused
returns-in_err-lines-clause-refused c =
    let p = err_from_is_err_and c.from_residual.result c.from_residual.ensures.1 in rw (p.1, p.2) (refused_first _ _ c.in_err-lines.field-0.0 c.in_err-lines.ensures.refused)

pub returns-in_err-source-clause-refused : goal.returns-in_err-source-clause-refused
returns-in_err-source-clause-refused c =
    let p = err_from_is_err_and c.from_residual-in_err-source.result c.from_residual-in_err-source.ensures.1 in rw (p.1, p.2) (
    refused_lines Registers c.args.text.now c.in_ok-lines.lines c.in_err-source.field-0.0 c.in_ok-lines.ensures.lines c.in_ok-lines.ensures.allowed c.in_err-source.ensures.refused)

pub returns-clause-allowed : goal.returns-clause-allowed
returns-clause-allowed c =
    allowed_lines Registers c.args.text.now c.in_ok-lines.lines c.in_ok-lines.ensures.lines c.in_ok-lines.ensures.allowed c.in_ok-source.ensures.allowed

pub returns-clause-writable : goal.returns-clause-writable
returns-clause-writable c =
    let lines = c.in_ok-lines.lines in λ none.
    c.read_nets_are_writable.ensures.writable c.args.text.now lines (first_section lines) Registers c.in_ok-source.source.net (omega (arith, none)) c.in_ok-lines.ensures.allowed c.in_ok-lines.ensures.lines
    (section_allowed Registers lines 0 c.in_ok-source.ensures.allowed) c.in_ok-source.ensures.exact

pub returns-clause-tellable : goal.returns-clause-tellable
returns-clause-tellable c =
    let lines = c.in_ok-lines.lines in
    (c.read_nets_are_writable.ensures.tellable c.args.text.now lines (first_section lines) Registers c.in_ok-source.source.net c.in_ok-lines.ensures.allowed c.in_ok-lines.ensures.lines
    (section_allowed Registers lines 0 c.in_ok-source.ensures.allowed) c.in_ok-source.ensures.exact).0

pub returns-clause-told : goal.returns-clause-told
returns-clause-told c =
    let lines = c.in_ok-lines.lines in
    subst IsToldClock (sym c.in_ok-source.ensures.clock)
    (c.read_nets_are_writable.ensures.tellable c.args.text.now lines (first_section lines) Registers c.in_ok-source.source.net c.in_ok-lines.ensures.allowed c.in_ok-lines.ensures.lines
    (section_allowed Registers lines 0 c.in_ok-source.ensures.allowed) c.in_ok-source.ensures.exact).1
