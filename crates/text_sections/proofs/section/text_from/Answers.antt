use Rattle.text_sections.proofs.SectionLemmas.{allowed_text_of, is_section, refused_text_of}
use Rattle.text_sections.proofs.section.text_from.Goals as goal

pub read_blif-requires : goal.read_blif-requires
read_blif-requires c = record { section = is_section c.args.lines.now c.args.from c.section.result c.section.ensures.section c.requires.within }

pub returns-in-Ok-clause-allowed : goal.returns-in-Ok-clause-allowed
returns-in-Ok-clause-allowed c =
    allowed_text_of c.args.lines.now c.args.from c.section.result c.section.ensures.section c.args.kind c.in-Ok.ensures.sound

pub returns-in-Err-clause-refused : goal.returns-in-Err-clause-refused
returns-in-Err-clause-refused c =
    refused_text_of c.args.lines.now c.args.from c.section.result c.section.ensures.section c.args.kind c.in-Err.error c.as_refusal.result
    c.in-Err.ensures.refused c.as_refusal.ensures.refusal
