use Rattle.mapping_reading.proofs.ReadMappings.{read_mapping_is_mapping}
use Rattle.mapping_reading.proofs.read_mappings.read_mappings_are_mappings.Goals as goal

pub returns : goal.returns
returns c = record { mapped = read_mapping_is_mapping }
