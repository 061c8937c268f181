use Rattle.module_join.proofs.TreeMade.{tree_is_made}
use Rattle.module_join.proofs.tree.tree_is_made.Goals as goal

pub returns : goal.returns
returns c = record { made = tree_is_made }
