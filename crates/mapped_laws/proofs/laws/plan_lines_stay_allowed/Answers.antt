use Rattle.mapped_laws.proofs.PlanMoved.{plan_lines_stay_allowed}
use Rattle.mapped_laws.proofs.laws.plan_lines_stay_allowed.Goals as goal

pub returns : goal.returns
returns c = record { allowed = plan_lines_stay_allowed }
