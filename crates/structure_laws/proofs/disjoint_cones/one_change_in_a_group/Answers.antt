use Rattle.structure_laws.proofs.DisjointCones.{one_change_in_group}
use Rattle.structure_laws.proofs.disjoint_cones.one_change_in_a_group.Goals as goal

pub returns : goal.returns
returns c = record { one = one_change_in_group }
