use Rattle.mapping_laws.proofs.SmallMappings.{merged_is_not_mapped}
use Rattle.mapping_laws.proofs.inverters.merged_nodes_are_not_mapped.Goals as goal

pub returns : goal.returns
returns c = record { not_mapped = merged_is_not_mapped }
