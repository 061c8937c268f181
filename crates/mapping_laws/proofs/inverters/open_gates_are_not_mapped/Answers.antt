use Rattle.mapping_laws.proofs.SmallMappings.{open_is_not_mapped}
use Rattle.mapping_laws.proofs.inverters.open_gates_are_not_mapped.Goals as goal

pub returns : goal.returns
returns c = record { not_mapped = open_is_not_mapped }
