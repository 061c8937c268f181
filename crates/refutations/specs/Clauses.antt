-- What clauses say: literals and clauses under an assignment, models of clauses, and what follows from them.
use Rattle.std.specs.Prelude.{◌≡◌, ℕ, Bool, true, false, not, ◌||◌, List, [], ◌∷◌, All}
use Rattle.refutations.specs.declared.literal.Literal.{Literal}

-- whether two bits are the same
abbrev pub same : Bool → Bool → Bool
same true b = b
same false b = not b

-- whether a literal is true: its variable has the bit that it wants
abbrev pub literal_true : (ℕ → Bool) → Literal → Bool
literal_true v l = same (v l.variable) l.wants

-- whether a clause is true: one of its literals is
abbrev pub clause_true : (ℕ → Bool) → List Literal → Bool
clause_true v [] = false
clause_true v (l ∷ ls) = literal_true v l || clause_true v ls

-- all clauses are true
abbrev pub IsModel : (ℕ → Bool) → List (List Literal) → Type 0
IsModel v clauses = All (λ c. clause_true v c ≡ true) clauses

-- a clause is true in each model of the others
abbrev pub Implies : List (List Literal) → List Literal → Type 0
Implies clauses clause = (v : ℕ → Bool) → IsModel v clauses → clause_true v clause ≡ true

-- no assignment makes all clauses true
abbrev pub HaveNoModel : List (List Literal) → Type 0
HaveNoModel clauses = (v : ℕ → Bool) → IsModel v clauses → ⊥
