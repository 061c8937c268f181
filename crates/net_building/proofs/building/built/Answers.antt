use Rattle.net_building.proofs.NoFault.{only_memory}
use Rattle.net_building.proofs.building.built.Goals as goal

pub memory_of-requires : goal.memory_of-requires
memory_of-requires c = record { memory = only_memory c.args.parts.named c.in-Err.error c.requires.sound c.in-Err.ensures.refused }
