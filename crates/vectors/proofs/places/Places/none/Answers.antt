use Rattle.vectors.proofs.PlaceLemmas.{no_place}
use Rattle.vectors.proofs.places.Places.none.Goals as goal

pub returns-clause-none : goal.returns-clause-none
returns-clause-none c = no_place c.in_ok-codes.codes.items c.in_ok-codes.ensures.zero
