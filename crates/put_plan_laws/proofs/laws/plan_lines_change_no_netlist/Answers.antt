use Rattle.put_plan_laws.proofs.OtherLines.{plan_lines_change_no_netlist}
use Rattle.put_plan_laws.proofs.laws.plan_lines_change_no_netlist.Goals as goal

pub returns : goal.returns
returns c = record { same = plan_lines_change_no_netlist }
