use Rattle.blif_read.specs.declared.kinds.Kind.TheVariants.{Netlist}
use Rattle.text_sections.specs.Denoted.{lines_from}
use Rattle.text_sections.proofs.LimitLemmas.{few_latches, few_nets}
use Rattle.text_sections.proofs.SectionLemmas.{first_allowed}
use Rattle.text_sections.proofs.section.netlist_from.Goals as goal

pub returns-in-Some-clause-latches : goal.returns-in-Some-clause-latches
returns-in-Some-clause-latches c =
    few_latches Netlist (lines_from c.args.lines.now c.args.from) c.in-Ok.text.net c.in-Ok.ensures.exact
    (first_allowed Netlist c.args.lines.now c.args.from c.in-Ok.ensures.allowed)

pub returns-in-Some-clause-nets : goal.returns-in-Some-clause-nets
returns-in-Some-clause-nets c =
    few_nets Netlist (lines_from c.args.lines.now c.args.from) c.in-Ok.text.net c.in-Ok.ensures.exact
    (first_allowed Netlist c.args.lines.now c.args.from c.in-Ok.ensures.allowed)
