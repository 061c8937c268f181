use Rattle.blif_read.specs.declared.kinds.Kind.TheVariants.{Netlist}
use Rattle.text_sections.specs.Refused.{refusal_from}
use Rattle.text_sections.proofs.StateLemmas.{listed_section}
use Rattle.text_sections.proofs.planned_section.netlist_section.Goals as goal

pub returns-in-Ok-clause-allowed : goal.returns-in-Ok-clause-allowed
returns-in-Ok-clause-allowed c = listed_section c.args.lines.now c.args.from c.in-Ok.ensures.allowed

pub returns-in-Err-clause-refused : goal.returns-in-Err-clause-refused
returns-in-Err-clause-refused c = c.unless_stateless.ensures.refused (refusal_from Netlist c.args.lines.now c.args.from) c.in-Err.ensures.refused
