-- What a step does: what is known of the variables, what is left of a clause, and where the hints of an addition lead.
use Rattle.std.specs.Prelude.{ℕ, Bool, true, false, not, ◌&&◌, List, [], ◌∷◌, nat_eq, if◌then◌else◌, slice_index_or, slice_set, Option, Some, None}
use Rattle.refutations.specs.declared.literal.Literal.{Literal}
use Rattle.refutations.specs.declared.reduction.Reduction.{Reduction}
use Rattle.refutations.specs.declared.reduction.Reduction.TheVariants.{False, Forces, Open, True}
use Rattle.refutations.specs.declared.answer.Answer.{Answer}
use Rattle.refutations.specs.declared.answer.Answer.TheVariants.{Followed, NoClause, TwoLiterals, Unfinished}
use Rattle.refutations.specs.Clauses.{same}

-- a clause that is alive, with its number
pub record Numbered : Type 0 where
  pub number : ℕ
  pub literals : List Literal

-- the literals of the clause alive with this number
abbrev pub clause_at : List Numbered → ℕ → Option (List Literal)
clause_at [] number = None
clause_at (c ∷ cs) number = if nat_eq c.number number then Some c.literals else clause_at cs number

-- what is known of a literal that wants this bit, from what is known of its variable
abbrev pub worth : Option Bool → Bool → Option Bool
worth None wants = None
worth (Some bit) wants = Some (same bit wants)

-- what is known of a literal
abbrev pub known_of : List (Option Bool) → Literal → Option Bool
known_of known l = worth (slice_index_or known l.variable None) l.wants

-- what two literals of which nothing is known leave: one, where they are the same
abbrev pub second : Literal → Literal → Reduction
second m l = if (nat_eq m.variable l.variable && same m.wants l.wants) then Forces m else Open

-- what is left with one more literal of which nothing is known
abbrev pub opened : Reduction → Literal → Reduction
opened False l = Forces l
opened (Forces m) l = second m l
opened Open l = Open
opened True l = True

-- what is left with one more literal, of which this is known
abbrev pub joined : Reduction → Option Bool → Literal → Reduction
joined found None l = opened found l
joined found (Some true) l = True
joined found (Some false) l = found

-- what is left of a clause after what was found before
abbrev pub reduced : List (Option Bool) → Reduction → List Literal → Reduction
reduced known found [] = found
reduced known found (l ∷ ls) = reduced known (joined found (known_of known l) l) ls

-- what is known once a literal is true
abbrev pub with_literal : List (Option Bool) → Literal → List (Option Bool)
with_literal known l = slice_set known l.variable (Some l.wants)

-- what is known once each literal of a clause is false
abbrev pub with_false : List (Option Bool) → List Literal → List (Option Bool)
with_false known [] = known
with_false known (l ∷ ls) = with_false (slice_set known l.variable (Some (not l.wants))) ls

-- what comes after a hint: done at a false clause, on with the literal that is forced, past a clause that is true
abbrev pub goes_on : (List (Option Bool) → Answer) → List (Option Bool) → Reduction → Answer
goes_on next known False = Followed
goes_on next known (Forces l) = next (with_literal known l)
goes_on next known Open = TwoLiterals
goes_on next known True = next known

-- what the clause of a hint leads to
abbrev pub after_hint : (List (Option Bool) → Answer) → List (Option Bool) → Option (List Literal) → Answer
after_hint next known None = NoClause
after_hint next known (Some literals) = goes_on next known (reduced known False literals)

-- where hints lead, one after another: they are followed as soon as a clause is false
abbrev pub follows : List Numbered → List (Option Bool) → List ℕ → Answer
follows clauses known [] = Unfinished
follows clauses known (hint ∷ hints) = after_hint (λ k. follows clauses k hints) known (clause_at clauses hint)
