use Rattle.structure_laws.proofs.LooseSource.{follows_with_free_bits}
use Rattle.structure_laws.proofs.loose_source.networks_follow_with_free_bits.Goals as goal

pub returns : goal.returns
returns c = record { follows = follows_with_free_bits }
