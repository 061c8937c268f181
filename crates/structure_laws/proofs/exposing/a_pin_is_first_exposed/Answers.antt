use Rattle.structure_laws.proofs.SmallExposing.{pin_is_first_exposed}
use Rattle.structure_laws.proofs.exposing.a_pin_is_first_exposed.Goals as goal

pub returns : goal.returns
returns c = record { first = pin_is_first_exposed }
