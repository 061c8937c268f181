use Rattle.std.proofs.Common.{◌∙◌}
use Rattle.machine_maker.proofs.CountLemmas.{ones_counted}
use Rattle.machine_maker.proofs.counting.ones.Goals as goal

pub returns-clause-ones : goal.returns-clause-ones
returns-clause-ones c = c.from.ensures ∙ ones_counted c.args.machine.now.table.outputs c.args.answer.outputs c.requires.narrow
