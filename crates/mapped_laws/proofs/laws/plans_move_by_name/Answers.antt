use Rattle.mapped_laws.proofs.PlanMoved.{plans_move_by_name}
use Rattle.mapped_laws.proofs.laws.plans_move_by_name.Goals as goal

pub returns : goal.returns
returns c = record { moved = plans_move_by_name }
