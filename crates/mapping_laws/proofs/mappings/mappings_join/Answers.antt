use Rattle.mapping_laws.proofs.MappingsJoined.{mappings_join}
use Rattle.mapping_laws.proofs.mappings.mappings_join.Goals as goal

pub returns : goal.returns
returns c = record { mapped = mappings_join }
