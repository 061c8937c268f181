use Rattle.source_laws.proofs.LooseRefinement.{unfreed_are_networks}
use Rattle.source_laws.proofs.loose.sources_without_free_bits_are_networks.Goals as goal

pub returns : goal.returns
returns c = record { alike = unfreed_are_networks }
