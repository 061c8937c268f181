use Rattle.mapping_reading.proofs.ReadMappings.{own_mapping_reads}
use Rattle.mapping_reading.proofs.read_mappings.netlists_read_as_themselves.Goals as goal

pub returns : goal.returns
returns c = record { reads = own_mapping_reads }
