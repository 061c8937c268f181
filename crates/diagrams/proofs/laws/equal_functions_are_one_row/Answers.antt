use Rattle.diagrams.proofs.Canonical.{one_row_each}
use Rattle.diagrams.proofs.laws.equal_functions_are_one_row.Goals as goal

pub returns : goal.returns
returns c = record { one = λ inputs rows j k D node_j node_k same. one_row_each inputs rows D j k node_j node_k same }
