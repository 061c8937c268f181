use Rattle.mapping_laws.proofs.SmallMappings.{inverters_are_secure}
use Rattle.mapping_laws.proofs.inverters.inverters_are_secure.Goals as goal

pub returns : goal.returns
returns c = record { secure = inverters_are_secure }
