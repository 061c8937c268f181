use Rattle.mapping_laws.proofs.MovedPlan.{moved_plan_is_plan}
use Rattle.mapping_laws.proofs.failing_block.moved_plan_is_a_plan.Goals as goal

pub returns : goal.returns
returns c = record { plan = moved_plan_is_plan }
