use Rattle.blif_read.proofs.NoLatches.{source_has_no_latches}
use Rattle.blif_read.specs.declared.kinds.Kind.TheVariants.{Source}
use Rattle.text_sections.specs.Denoted.{first_lines}
use Rattle.text_sections.proofs.LimitLemmas.{few_inputs, few_nets}
use Rattle.text_sections.proofs.SectionLemmas.{first_allowed}
use Rattle.text_sections.proofs.section.first_source.Goals as goal

pub returns-in-Ok-clause-combinational : goal.returns-in-Ok-clause-combinational
returns-in-Ok-clause-combinational c =
    source_has_no_latches (first_lines c.args.lines.now) c.in-Ok.text.net c.in-Ok.ensures.exact (first_allowed Source c.args.lines.now 0 c.in-Ok.ensures.allowed)

pub returns-in-Ok-clause-inputs : goal.returns-in-Ok-clause-inputs
returns-in-Ok-clause-inputs c =
    few_inputs Source (first_lines c.args.lines.now) c.in-Ok.text.net c.in-Ok.ensures.exact (first_allowed Source c.args.lines.now 0 c.in-Ok.ensures.allowed)

pub returns-in-Ok-clause-nets : goal.returns-in-Ok-clause-nets
returns-in-Ok-clause-nets c =
    few_nets Source (first_lines c.args.lines.now) c.in-Ok.text.net c.in-Ok.ensures.exact (first_allowed Source c.args.lines.now 0 c.in-Ok.ensures.allowed)
