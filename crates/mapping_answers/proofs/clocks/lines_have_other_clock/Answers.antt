-- Both are sections of the lines.
use Rattle.std.proofs.Common.{arith}
use Rattle.text_sections.proofs.SectionLemmas.{is_section}
use Rattle.mapping_answers.proofs.clocks.lines_have_other_clock.Goals as goal

pub of-first-requires : goal.of-first-requires
of-first-requires c = record { section = is_section c.args.lines.now 0 c.section.result c.section.ensures.section (omega arith) }

pub of-second-requires : goal.of-second-requires
of-second-requires c = record {
  section = is_section c.args.lines.now c.behind_first.result c.section-2.result c.section-2.ensures.section c.behind_first.ensures.within;
}
