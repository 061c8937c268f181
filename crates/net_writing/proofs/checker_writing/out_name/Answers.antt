use Rattle.std.proofs.Common.{arith}
use Rattle.std.proofs.lemmas.Grind.{common_steps}
use Rattle.net_building.proofs.FreshSteps.{fresh_distinct}
use Rattle.net_writing.proofs.checker_writing.out_name.Goals as goal

pub returns-in-None-clause-distinct : goal.returns-in-None-clause-distinct
returns-in-None-clause-distinct c = grind (arith, common_steps, fresh_distinct)
