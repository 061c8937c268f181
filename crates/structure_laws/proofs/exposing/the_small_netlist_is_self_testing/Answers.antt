use Rattle.structure_laws.proofs.SmallExposing.{small_is_self_testing}
use Rattle.structure_laws.proofs.exposing.the_small_netlist_is_self_testing.Goals as goal

pub returns : goal.returns
returns c = record { exposed = small_is_self_testing }
