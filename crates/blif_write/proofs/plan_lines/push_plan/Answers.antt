use Rattle.std.proofs.Common.{arith}
use Rattle.std.proofs.lemmas.Grind.{common_steps}
use Rattle.blif_write.proofs.After.{after_lines-append}
use Rattle.blif_write.proofs.PlanFacts.{state_lines-words, made-on-ok}
use Rattle.blif_write.proofs.plan_lines.push_plan.Goals as goal

pub returns-clause-lines : goal.returns-clause-lines
returns-clause-lines c = grind (arith, common_steps, after_lines-append, state_lines-words)

pub returns-clause-well_made : goal.returns-clause-well_made
returns-clause-well_made c = made-on-ok c.push_states.result c.plan.inside c.args.plan.now c.plan.view_is c.plan.invariant.well_made
