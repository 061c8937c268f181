use Rattle.text_sections.proofs.MachineLemmas.{behind_within as behind_machine}
use Rattle.netlist_answers.proofs.auditing.behind_source.Goals as goal

pub returns-in-Kiss-clause-within : goal.returns-in-Kiss-clause-within
returns-in-Kiss-clause-within c = behind_machine c.args.lines.now c.section.result c.section.ensures.section
