use Rattle.blif_write.proofs.PlanFacts.{made-on-ok}
use Rattle.blif_write.proofs.plan_lines.push_code_lines.Goals as goal

pub returns-clause-well_made : goal.returns-clause-well_made
returns-clause-well_made c = made-on-ok c.push_check_lines.result c.plan.inside c.args.plan.now c.plan.view_is c.plan.invariant.well_made
