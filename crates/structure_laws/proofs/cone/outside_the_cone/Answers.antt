use Rattle.structure_laws.proofs.Outside.{outside_cone_unchanged}
use Rattle.structure_laws.proofs.cone.outside_the_cone.Goals as goal

pub returns : goal.returns
returns c = record { unchanged = outside_cone_unchanged }
