use Rattle.module_join.proofs.NetNames.{join_names_nets}
use Rattle.module_join.proofs.joining.joins_name_each_net.Goals as goal

pub returns : goal.returns
returns c = record { names = join_names_nets }
