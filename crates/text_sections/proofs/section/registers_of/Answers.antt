use Rattle.blif_read.specs.declared.kinds.Kind.TheVariants.{Registers}
use Rattle.text_sections.specs.Denoted.{first_lines}
use Rattle.text_sections.proofs.LimitLemmas.{few_latches}
use Rattle.text_sections.proofs.OutputLemmas.{few_outputs}
use Rattle.text_sections.proofs.OutputsApart.{outputs_apart}
use Rattle.text_sections.proofs.SectionLemmas.{section_allowed}
use Rattle.text_sections.proofs.section.registers_of.Goals as goal

pub returns-in-Ok-clause-latches : goal.returns-in-Ok-clause-latches
returns-in-Ok-clause-latches c =
    few_latches Registers (first_lines c.args.lines.now) c.in-Ok.text.net c.in-Ok.ensures.exact (section_allowed Registers c.args.lines.now 0 c.in-Ok.ensures.allowed)

pub returns-in-Ok-clause-few : goal.returns-in-Ok-clause-few
returns-in-Ok-clause-few c =
    few_outputs Registers (first_lines c.args.lines.now) c.in-Ok.text.net c.in-Ok.ensures.exact (section_allowed Registers c.args.lines.now 0 c.in-Ok.ensures.allowed)

pub returns-in-Ok-clause-once : goal.returns-in-Ok-clause-once
returns-in-Ok-clause-once c =
    outputs_apart Registers (first_lines c.args.lines.now) c.in-Ok.text.net c.in-Ok.ensures.exact (section_allowed Registers c.args.lines.now 0 c.in-Ok.ensures.allowed)
