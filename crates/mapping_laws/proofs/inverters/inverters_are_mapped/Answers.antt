use Rattle.mapping_laws.proofs.SmallMappings.{inverters_are_mapped}
use Rattle.mapping_laws.proofs.inverters.inverters_are_mapped.Goals as goal

pub returns : goal.returns
returns c = record { mapped = inverters_are_mapped }
