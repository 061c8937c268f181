use Rattle.mapping_laws.proofs.SmallMappings.{missing_is_not_mapped}
use Rattle.mapping_laws.proofs.inverters.missing_gates_are_not_mapped.Goals as goal

pub returns : goal.returns
returns c = record { not_mapped = missing_is_not_mapped }
