use Rattle.register_laws.proofs.SmallTwinCopies.{misread_is_unwatched}
use Rattle.register_laws.proofs.small_twin.watches_read_copies.Goals as goal

pub returns : goal.returns
returns c = record { unwatched = misread_is_unwatched }
