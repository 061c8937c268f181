use Rattle.mapping_reading.proofs.NamesMoved.{names_stay_secure}
use Rattle.mapping_reading.proofs.names.mappings_by_name_stay_secure.Goals as goal

pub returns : goal.returns
returns c = record { secure = names_stay_secure }
