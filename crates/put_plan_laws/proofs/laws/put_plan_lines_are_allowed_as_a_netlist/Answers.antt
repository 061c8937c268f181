use Rattle.put_plan_laws.proofs.PutLines.{put_plan_lines_are_allowed_as_a_netlist}
use Rattle.put_plan_laws.proofs.laws.put_plan_lines_are_allowed_as_a_netlist.Goals as goal

pub returns : goal.returns
returns c = record { allowed = put_plan_lines_are_allowed_as_a_netlist }
