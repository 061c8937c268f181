use Rattle.mapped_laws.proofs.PlanWords.{plans_are_in_plan_lines}
use Rattle.mapped_laws.proofs.laws.plans_are_in_plan_lines.Goals as goal

pub returns : goal.returns
returns c = record { same = plans_are_in_plan_lines }
