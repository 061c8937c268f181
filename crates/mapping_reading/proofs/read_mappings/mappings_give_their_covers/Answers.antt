use Rattle.mapping_reading.proofs.GivenCovers.{mapping_gives_covers}
use Rattle.mapping_reading.proofs.read_mappings.mappings_give_their_covers.Goals as goal

pub returns : goal.returns
returns c = record { gives = mapping_gives_covers }
