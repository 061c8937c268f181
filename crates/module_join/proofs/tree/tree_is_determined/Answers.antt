use Rattle.module_join.proofs.TreeNodes.{tree_is_determined}
use Rattle.module_join.proofs.tree.tree_is_determined.Goals as goal

pub returns : goal.returns
returns c = record { one = tree_is_determined }
