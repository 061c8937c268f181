-- Clauses of gates over variables that are numbered, and a list of clauses after some more.
use Rattle.std.specs.Prelude.{ℕ, true, false, not, List, [], ◌∷◌, ◌++◌, map, if◌then◌else◌}
use Rattle.std.specs.List.{list_any}
use Rattle.refutations.specs.declared.literal.Literal.{Literal}
use Rattle.exact_question.specs.Rows.{literal, is_literal, written}

-- the literals with one more, where it isn't there
abbrev pub with_new : List Literal → Literal → List Literal
with_new list l = if list_any (λ m. is_literal l m) list then list else list ++ l ∷ []

-- what is written of a clause: the clause with each literal once, and nothing where a literal and its negation stand in it
unfoldable pub kept : List Literal → List (List Literal)
kept clause = written (clause ∷ [])

-- the clauses after some more
abbrev pub after_clauses : List (List Literal) → List (List Literal) → List (List Literal)
after_clauses out [] = out
after_clauses out (clause ∷ clauses) = after_clauses (out ++ kept clause) clauses

abbrev pub is_one : ℕ → Literal
is_one variable = literal variable true

abbrev pub is_zero : ℕ → Literal
is_zero variable = literal variable false

abbrev pub turned : Literal → Literal
turned l = literal l.variable (not l.wants)

-- the variable is 1 exactly where all of the literals are
abbrev pub and_of : ℕ → List Literal → List (List Literal)
and_of variable literals = map (λ l. is_zero variable ∷ l ∷ []) literals ++ (is_one variable ∷ map turned literals) ∷ []

-- a literal is true exactly where one of some others is
abbrev pub or_of : Literal → List Literal → List (List Literal)
or_of out literals = map (λ l. out ∷ turned l ∷ []) literals ++ (turned out ∷ literals) ∷ []

-- the variable is 1 exactly where one of two literals is true and the other isn't
abbrev pub xor_of : ℕ → Literal → Literal → List (List Literal)
xor_of v a b =
    (is_zero v ∷ a ∷ b ∷ []) ∷ (is_zero v ∷ turned a ∷ turned b ∷ []) ∷ (is_one v ∷ turned a ∷ b ∷ []) ∷ (is_one v ∷ a ∷ turned b ∷ []) ∷ []
