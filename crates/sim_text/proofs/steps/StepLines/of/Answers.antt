use Rattle.std.proofs.Common.{drop, sym}
use Rattle.sim_text.proofs.StepsLemmas.{all_sized}
use Rattle.sim_text.proofs.steps.StepLines.of.Goals as goal

pub returns-in-None-clause-sized : goal.returns-in-None-clause-sized
returns-in-None-clause-sized c = all_sized c.args.inputs (drop c.args.from c.args.lines.now) (sym c.in-None.ensures.first)
