use Rattle.mapped_laws.proofs.MappedPlans.{put_plan_lines_are_secure}
use Rattle.mapped_laws.proofs.laws.put_plan_lines_are_secure.Goals as goal

pub returns : goal.returns
returns c = record { secure = put_plan_lines_are_secure }
