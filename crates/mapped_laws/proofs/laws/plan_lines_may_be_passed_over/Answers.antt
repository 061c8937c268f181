use Rattle.mapped_laws.proofs.PassedOver.{plan_lines_may_be_passed_over}
use Rattle.mapped_laws.proofs.laws.plan_lines_may_be_passed_over.Goals as goal

pub returns : goal.returns
returns c = record { allowed = plan_lines_may_be_passed_over }
