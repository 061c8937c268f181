use Rattle.structure_laws.proofs.SmallExposing.{idle_pin_is_exposed_nowhere}
use Rattle.structure_laws.proofs.exposing.an_idle_pin_is_exposed_nowhere.Goals as goal

pub returns : goal.returns
returns c = record { nowhere = idle_pin_is_exposed_nowhere }
