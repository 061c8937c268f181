use Rattle.mapping_laws.proofs.MappingsJoined.{is_own_mapping}
use Rattle.mapping_laws.proofs.mappings.netlists_are_their_own_mappings.Goals as goal

pub returns : goal.returns
returns c = record { mapped = is_own_mapping }
