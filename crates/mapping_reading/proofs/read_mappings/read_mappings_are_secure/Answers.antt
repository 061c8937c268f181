use Rattle.mapping_reading.proofs.ReadMappings.{read_mapping_is_secure}
use Rattle.mapping_reading.proofs.read_mappings.read_mappings_are_secure.Goals as goal

pub returns : goal.returns
returns c = record { secure = read_mapping_is_secure }
