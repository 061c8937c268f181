use Rattle.mapped_laws.proofs.PlanRefusals.{plan_refusals_are_in_plan_lines}
use Rattle.mapped_laws.proofs.laws.plan_refusals_are_in_plan_lines.Goals as goal

pub returns : goal.returns
returns c = record { allowed = plan_refusals_are_in_plan_lines }
