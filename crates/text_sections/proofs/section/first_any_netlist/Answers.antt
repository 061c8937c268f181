use Rattle.blif_read.specs.declared.kinds.Kind.TheVariants.{AnyPlan}
use Rattle.text_sections.specs.Denoted.{lines_from}
use Rattle.text_sections.proofs.LimitLemmas.{few_nets}
use Rattle.text_sections.proofs.SectionLemmas.{first_allowed}
use Rattle.text_sections.proofs.section.first_any_netlist.Goals as goal

pub returns-in-Some-clause-nets : goal.returns-in-Some-clause-nets
returns-in-Some-clause-nets c =
    few_nets AnyPlan (lines_from c.args.lines.now 0) c.in-Ok.text.net c.in-Ok.ensures.exact
    (first_allowed AnyPlan c.args.lines.now 0 c.in-Ok.ensures.allowed)
