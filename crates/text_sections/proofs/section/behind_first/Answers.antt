use Rattle.std.proofs.Common.{arith}
use Rattle.text_sections.proofs.SectionLemmas.{behind_within}
use Rattle.text_sections.proofs.section.behind_first.Goals as goal

pub returns-clause-within : goal.returns-clause-within
returns-clause-within c = behind_within c.args.lines.now 0 c.section.result c.section.ensures.section (omega arith)
