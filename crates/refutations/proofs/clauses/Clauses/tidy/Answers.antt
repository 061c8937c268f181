use Rattle.refutations.proofs.clauses.Clauses.tidy.Goals as goal

pub invariant_of-self : goal.invariant_of-self
invariant_of-self c = c.gather.ensures.held _ c.self.invariant
