use Rattle.structure_laws.proofs.Outside.{outside_function_keeps_word}
use Rattle.structure_laws.proofs.disjoint_cones.nodes_outside_the_function.Goals as goal

pub returns : goal.returns
returns c = record { kept = outside_function_keeps_word }
