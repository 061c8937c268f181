use Rattle.put_plan_laws.proofs.OtherFaults.{put_plan_lines_are_passed_over}
use Rattle.put_plan_laws.proofs.laws.put_plan_lines_are_passed_over.Goals as goal

pub returns : goal.returns
returns c = record { allowed = put_plan_lines_are_passed_over }
