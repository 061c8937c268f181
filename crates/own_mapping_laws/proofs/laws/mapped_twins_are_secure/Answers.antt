use Rattle.own_mapping_laws.proofs.MappedTwins.{mapped_twins_are_secure}
use Rattle.own_mapping_laws.proofs.laws.mapped_twins_are_secure.Goals as goal

pub returns : goal.returns
returns c = record { secure = mapped_twins_are_secure }
