-- Clauses of gates, over variables that aren't numbered yet.
use Rattle.std.specs.Prelude.{Bool, true, false, not, List, [], ◌∷◌, ◌++◌, map}
use Rattle.std.specs.List.{list_any}
use Rattle.refutations.specs.declared.literal.Literal.{Literal}
use Rattle.refutations.specs.Clauses.{same}
use Rattle.exact_question.specs.Variables.{Variable, number_of}

-- a literal: a variable, and the bit that it wants
pub record Claim : Type 0 where
  pub variable : Variable
  pub wants : Bool

abbrev pub yes : Variable → Claim
yes v = record { variable = v; wants = true }

abbrev pub no : Variable → Claim
no v = record { variable = v; wants = false }

abbrev pub negated : Claim → Claim
negated c = record { variable = c.variable; wants = not c.wants }

-- whether a claim holds, and whether one of them does, where each variable has a meaning
abbrev pub holds : (Variable → Bool) → Claim → Bool
holds meaning c = same (meaning c.variable) c.wants

abbrev pub some_holds : (Variable → Bool) → List Claim → Bool
some_holds meaning clause = list_any (holds meaning) clause

-- the variable is 1 exactly where all of the claims hold
abbrev pub and_clauses : Variable → List Claim → List (List Claim)
and_clauses v claims = map (λ c. no v ∷ c ∷ []) claims ++ (yes v ∷ map negated claims) ∷ []

-- the claim holds exactly where one of the claims does
abbrev pub or_clauses : Claim → List Claim → List (List Claim)
or_clauses out claims = map (λ c. out ∷ negated c ∷ []) claims ++ (negated out ∷ claims) ∷ []

-- the variable is 1 exactly where one of two claims holds and the other doesn't
abbrev pub xor_clauses : Variable → Claim → Claim → List (List Claim)
xor_clauses v a b =
    (no v ∷ a ∷ b ∷ []) ∷ (no v ∷ negated a ∷ negated b ∷ []) ∷ (yes v ∷ negated a ∷ b ∷ []) ∷ (yes v ∷ a ∷ negated b ∷ []) ∷ []

-- a clause with its variables numbered by their order
abbrev pub numbered : List Variable → List Claim → List Literal
numbered variables clause = map (λ c. record { variable = number_of c.variable variables; wants = c.wants }) clause
