-- The machine, and then what stands behind it.
use Rattle.kiss_read.specs.Refusal.{refusal}
use Rattle.text_sections.proofs.SectionLemmas.{refused_first}
use Rattle.text_sections.proofs.MachineLemmas.{left_behind, none_left}
use Rattle.text_sections.specs.Denoted.{machine_lines}
use Rattle.text_sections.specs.Refused.{behind_machine, machine_refusal}
use Rattle.text_sections.proofs.machine_section.machine_alone.Goals as goal

pub returns-in-Err-clause-refused : goal.returns-in-Err-clause-refused
returns-in-Err-clause-refused c =
    refused_first (machine_refusal (refusal (machine_lines c.args.lines.now))) (behind_machine c.args.lines.now) c.in-Err.refusal c.in-Err.ensures.refused

pub returns-then-next-len-clause-refused : goal.returns-then-next-len-clause-refused
returns-then-next-len-clause-refused c =
    left_behind c.args.lines.now (machine_refusal (refusal (machine_lines c.args.lines.now))) c.section-next.result c.len.result c.number.result
    c.section-next.ensures.section c.in-Ok.ensures.allowed c.if-next-len.true c.len.ensures.count c.number.ensures.number

pub returns-clause-allowed : goal.returns-clause-allowed
returns-clause-allowed c =
    none_left c.args.lines.now (machine_refusal (refusal (machine_lines c.args.lines.now))) c.section-next.result c.len.result
    c.section-next.ensures.section c.in-Ok.ensures.allowed c.if-next-len.false c.len.ensures.count
