-- The section is one of the lines, and what was read of it is a part.
use Rattle.text_sections.proofs.SectionLemmas.{is_section}
use Rattle.part_reading.proofs.PartMade.{part_here}
use Rattle.part_reading.proofs.sections.part_after.Goals as goal

pub of-section-requires : goal.of-section-requires
of-section-requires c = record { section = is_section c.args.lines.now c.args.from c.section.result c.section.ensures.section c.requires.within }

pub returns-in-None-clause-planned : goal.returns-in-None-clause-planned
returns-in-None-clause-planned c =
    part_here c.args.lines.now c.args.from c.in-Ok.part c.in-Ok.ensures.exact c.nets-nets.ensures.checked c.in-Ok.ensures.of_net c.in-Ok.ensures.allowed
