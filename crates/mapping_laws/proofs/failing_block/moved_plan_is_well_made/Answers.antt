use Rattle.mapping_laws.proofs.MovedPlan.{moved_plan_is_well_made}
use Rattle.mapping_laws.proofs.failing_block.moved_plan_is_well_made.Goals as goal

pub returns : goal.returns
returns c = record { well_made = moved_plan_is_well_made }
