use Rattle.refutations.proofs.StoreLemmas.{removed_was, removed_left, removed_held}
use Rattle.refutations.proofs.clauses.Clauses.mark.Goals as goal

pub returns-in-Some-clause-was : goal.returns-in-Some-clause-was
returns-in-Some-clause-was c =
    removed_was _ _ _ _ _ _ _ _ c.self.view_is c.self.invariant c.in-Some.ensures.present c.as_slice.ensures.value c.index-entry.ensures

pub returns-in-Some-clause-without : goal.returns-in-Some-clause-without
returns-in-Some-clause-without c =
    removed_left _ _ _ _ _ _ _ _ c.self.view_is c.self.invariant c.in-Some.ensures.present c.as_slice.ensures.value c.index-entry.ensures

pub invariant_of-self : goal.invariant_of-self
invariant_of-self c =
    removed_held _ _ _ _ _ _ _ _ c.self.view_is c.self.invariant c.in-Some.ensures.present c.as_slice.ensures.value c.index-entry.ensures
