use Rattle.refutations.proofs.StoreLemmas.{found_in}
use Rattle.refutations.proofs.clauses.Clauses.find.Goals as goal

pub returns-clause-found : goal.returns-clause-found
returns-clause-found c =
    found_in _ _ _ _ _ _ _ _ c.self.view_is c.self.invariant c.in_ok-place.ensures.present c.as_slice.ensures.value c.index-entry.ensures _ c.deref.ensures.value
