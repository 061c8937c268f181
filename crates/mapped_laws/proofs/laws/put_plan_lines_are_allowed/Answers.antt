use Rattle.mapped_laws.proofs.PlanRefusals.{put_plan_lines_are_allowed}
use Rattle.mapped_laws.proofs.laws.put_plan_lines_are_allowed.Goals as goal

pub returns : goal.returns
returns c = record { allowed = put_plan_lines_are_allowed }
