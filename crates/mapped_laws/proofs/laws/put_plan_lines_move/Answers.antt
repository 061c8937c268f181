use Rattle.mapped_laws.proofs.PlanWords.{put_plan_lines_move}
use Rattle.mapped_laws.proofs.laws.put_plan_lines_move.Goals as goal

pub returns : goal.returns
returns c = record { moved = put_plan_lines_move }
