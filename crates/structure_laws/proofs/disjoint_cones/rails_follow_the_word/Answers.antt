use Rattle.structure_laws.proofs.DisjointCones.{rails_follow_word}
use Rattle.structure_laws.proofs.disjoint_cones.rails_follow_the_word.Goals as goal

pub returns : goal.returns
returns c = record { same = rails_follow_word }
