use Rattle.module_join.proofs.JointNames.{join_is_built}
use Rattle.module_join.proofs.joining.joins_are_built.Goals as goal

pub returns : goal.returns
returns c = record { built = join_is_built }
