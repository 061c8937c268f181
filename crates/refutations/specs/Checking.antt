-- What a checker holds, what it answers to an addition, and what its clauses say of the formula that it was given.
use Rattle.std.specs.Prelude.{◌≡◌, ℕ, ◌<◌, Bool, false, ◌||◌, List, [], ◌∷◌, ◌++◌, length, nat_eq, nat_lt, nat_le, if◌then◌else◌, replicate, Option, None, All, IsTrue}
use Rattle.std.specs.List.{list_all}
use Rattle.refutations.specs.declared.literal.Literal.{Literal}
use Rattle.refutations.specs.declared.reduction.Reduction.{Reduction}
use Rattle.refutations.specs.declared.reduction.Reduction.TheVariants.{False, Forces, Open, True}
use Rattle.refutations.specs.declared.answer.Answer.{Answer}
use Rattle.refutations.specs.declared.answer.Answer.TheVariants.{OldNumber, NoVariable}
use Rattle.refutations.specs.Clauses.{Implies, HaveNoModel}
use Rattle.refutations.specs.Steps.{Numbered, with_false, follows}

-- what contracts see of a checker: how many variables there are, the greatest number until now, the clauses alive, and whether the empty clause came
pub record CheckerState : Type 0 where
  pub variables : ℕ
  pub last : ℕ
  pub clauses : List Numbered
  pub refuted : Bool

-- a checker without a clause
abbrev pub empty_checker : ℕ → CheckerState
empty_checker variables = record { variables = variables; last = 0; clauses = []; refuted = false }

-- each literal's variable is one of so many
abbrev pub AreWithin : ℕ → List Literal → Type 0
AreWithin variables literals = All (λ l. l.variable < variables) literals

-- the literal that is forced is within, where there is one
abbrev pub ForcesWithin : ℕ → Reduction → Type 0
ForcesWithin variables False = Unit {0}
ForcesWithin variables (Forces l) = l.variable < variables
ForcesWithin variables Open = Unit {0}
ForcesWithin variables True = Unit {0}

-- the literals of each clause are within
abbrev pub HoldWithin : ℕ → List Numbered → Type 0
HoldWithin variables clauses = All (λ c. AreWithin variables c.literals) clauses

-- nothing is known between two additions, and each clause is over the variables
pub record IsReady (known : List (Option Bool)) (clauses : List Numbered) : Type 0 where
  pub blank : known ≡ replicate (length known) None
  pub within : HoldWithin (length known) clauses

-- where the hints of a clause lead, begun with nothing known but that the clause is false
abbrev pub step : CheckerState → List Literal → List ℕ → Answer
step state literals hints = follows state.clauses (with_false (replicate state.variables None) literals) hints

-- what is answered to an addition
abbrev pub answer_of : CheckerState → ℕ → List Literal → List ℕ → Answer
answer_of state number literals hints =
    if nat_le number state.last then OldNumber
    else (if list_all (λ l. nat_lt l.variable state.variables) literals then step state literals hints else NoVariable)

-- the checker with one more clause
abbrev pub with_clause : CheckerState → ℕ → List Literal → CheckerState
with_clause state number literals =
    record state { last = number; clauses = state.clauses ++ record { number = number; literals = literals } ∷ []; refuted = state.refuted || nat_eq (length literals) 0 }

-- each clause alive is implied by the formula, and where the empty clause came, the formula has no model
pub record IsSound (formula : List (List Literal)) (state : CheckerState) : Type 0 where
  pub implied : All (λ c. Implies formula c.literals) state.clauses
  pub refuted : IsTrue state.refuted → HaveNoModel formula
