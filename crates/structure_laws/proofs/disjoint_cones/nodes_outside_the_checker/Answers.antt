use Rattle.structure_laws.proofs.Outside.{outside_checker_settles}
use Rattle.structure_laws.proofs.disjoint_cones.nodes_outside_the_checker.Goals as goal

pub returns : goal.returns
returns c = record { settles = outside_checker_settles }
