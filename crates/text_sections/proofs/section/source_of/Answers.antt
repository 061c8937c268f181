use Rattle.blif_read.proofs.NoLatches.{source_has_no_latches}
use Rattle.blif_read.specs.declared.kinds.Kind.TheVariants.{Source}
use Rattle.text_sections.specs.Denoted.{first_lines}
use Rattle.text_sections.proofs.OutputLemmas.{few_outputs}
use Rattle.text_sections.proofs.OutputsApart.{outputs_apart}
use Rattle.text_sections.proofs.SectionLemmas.{section_allowed}
use Rattle.text_sections.proofs.section.source_of.Goals as goal

pub returns-in-Ok-clause-combinational : goal.returns-in-Ok-clause-combinational
returns-in-Ok-clause-combinational c =
    source_has_no_latches (first_lines c.args.lines.now) c.in-Ok.text.net c.in-Ok.ensures.exact (section_allowed Source c.args.lines.now 0 c.in-Ok.ensures.allowed)

pub returns-in-Ok-clause-few : goal.returns-in-Ok-clause-few
returns-in-Ok-clause-few c =
    few_outputs Source (first_lines c.args.lines.now) c.in-Ok.text.net c.in-Ok.ensures.exact (section_allowed Source c.args.lines.now 0 c.in-Ok.ensures.allowed)

pub returns-in-Ok-clause-once : goal.returns-in-Ok-clause-once
returns-in-Ok-clause-once c =
    outputs_apart Source (first_lines c.args.lines.now) c.in-Ok.text.net c.in-Ok.ensures.exact (section_allowed Source c.args.lines.now 0 c.in-Ok.ensures.allowed)
