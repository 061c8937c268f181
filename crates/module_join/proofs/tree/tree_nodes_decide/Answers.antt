use Rattle.module_join.proofs.TreeNodes.{tree_nodes_decide}
use Rattle.module_join.proofs.tree.tree_nodes_decide.Goals as goal

pub returns : goal.returns
returns c = record { tree = tree_nodes_decide }
