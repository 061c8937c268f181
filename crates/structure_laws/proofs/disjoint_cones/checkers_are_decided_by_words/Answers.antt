use Rattle.structure_laws.proofs.DisjointCones.{code_disjoint_by_words}
use Rattle.structure_laws.proofs.disjoint_cones.checkers_are_decided_by_words.Goals as goal

pub returns : goal.returns
returns c = record { disjoint = code_disjoint_by_words }
