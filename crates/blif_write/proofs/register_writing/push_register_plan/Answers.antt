use Rattle.std.proofs.Common.{arith}
use Rattle.std.proofs.lemmas.Grind.{common_steps}
use Rattle.blif_write.proofs.After.{after_lines-append}
use Rattle.blif_write.proofs.PlanFacts.{on-ok}
use Rattle.blif_write.proofs.RegisterNets.{nets-known}
use Rattle.blif_write.proofs.register_writing.push_register_plan.Goals as goal

pub push_code_lines-requires-clause-known : goal.push_code_lines-requires-clause-known
push_code_lines-requires-clause-known c = nets-known c.args.net.now.circuit c.args.plan.now.checks c.requires.of_net.checks

pub returns-clause-lines : goal.returns-clause-lines
returns-clause-lines c = grind (arith, common_steps, after_lines-append)

pub returns-clause-well_made : goal.returns-clause-well_made
returns-clause-well_made c = on-ok c.push_watch.result c.in_ok-push_code_lines.ensures.well_made
