use Rattle.text_sections.proofs.SectionLemmas.{none_left, refused_first, some_left}
use Rattle.text_sections.specs.Refused.{left_behind, refusal_from}
use Rattle.text_sections.proofs.section.last_text.Goals as goal

pub returns-in-Err-clause-refused : goal.returns-in-Err-clause-refused
returns-in-Err-clause-refused c =
    refused_first (refusal_from c.args.kind c.args.lines.now c.args.from) (left_behind c.args.lines.now c.args.from) c.in-Err.refusal c.in-Err.ensures.refused

pub returns-then-next-len-clause-refused : goal.returns-then-next-len-clause-refused
returns-then-next-len-clause-refused c =
    some_left c.args.lines.now c.args.from c.section-next.result c.section-next.ensures.section c.args.kind c.len.result c.number.result
    c.in-Ok.ensures.allowed c.if-next-len.true c.len.ensures.count c.number.ensures.number

pub returns-clause-allowed : goal.returns-clause-allowed
returns-clause-allowed c =
    none_left c.args.lines.now c.args.from c.section-next.result c.section-next.ensures.section c.args.kind c.len.result
    c.in-Ok.ensures.allowed c.if-next-len.false c.len.ensures.count
