-- A small question, computed: that of the small netlist, which is one AND under duplex. Its clauses stand as DIMACS writes them, with variables from 1 on:
-- the inputs a and b are 1 and 2, y is 3 in the source and 5 in the netlist, and its choice is 12.
use Rattle.std.specs.Prelude.{◌≡◌, ℕ, ◌-◌, true, false, List, [], ◌∷◌}
use Rattle.structure_laws.specs.SmallNetlist.{small_netlist, small_plan, small_source}
use Rattle.refutations.specs.declared.literal.Literal.{Literal}
use Rattle.exact_question.specs.Rows.{literal}
use Rattle.exact_question.specs.Question.{question}

-- the literals of a variable that is numbered from 1 on
abbrev pub is_ : ℕ → Literal
is_ n = literal (n - 1) true

abbrev pub no_ : ℕ → Literal
no_ n = literal (n - 1) false

abbrev pub small_clauses : List (List Literal)
small_clauses =
    (no_ 4 ∷ is_ 1 ∷ []) ∷ (no_ 4 ∷ is_ 2 ∷ []) ∷ (is_ 4 ∷ no_ 1 ∷ no_ 2 ∷ []) ∷ (is_ 3 ∷ no_ 4 ∷ []) ∷ (no_ 3 ∷ is_ 4 ∷ []) ∷ (no_ 6 ∷ is_ 1 ∷ []) ∷
    (no_ 6 ∷ is_ 2 ∷ []) ∷ (is_ 6 ∷ no_ 1 ∷ no_ 2 ∷ []) ∷ (is_ 5 ∷ no_ 6 ∷ []) ∷ (no_ 5 ∷ is_ 6 ∷ []) ∷ (no_ 8 ∷ is_ 1 ∷ []) ∷ (no_ 8 ∷ is_ 2 ∷ []) ∷
    (is_ 8 ∷ no_ 1 ∷ no_ 2 ∷ []) ∷ (is_ 7 ∷ no_ 8 ∷ []) ∷ (no_ 7 ∷ is_ 8 ∷ []) ∷ (is_ 9 ∷ is_ 7 ∷ []) ∷ (no_ 9 ∷ no_ 7 ∷ []) ∷
    (is_ 10 ∷ no_ 5 ∷ []) ∷ (no_ 10 ∷ is_ 5 ∷ []) ∷ (is_ 11 ∷ no_ 9 ∷ []) ∷ (no_ 11 ∷ is_ 9 ∷ []) ∷ (no_ 14 ∷ is_ 13 ∷ is_ 12 ∷ []) ∷
    (no_ 14 ∷ no_ 13 ∷ no_ 12 ∷ []) ∷ (is_ 14 ∷ no_ 13 ∷ is_ 12 ∷ []) ∷ (is_ 14 ∷ is_ 13 ∷ no_ 12 ∷ []) ∷ (no_ 15 ∷ is_ 1 ∷ []) ∷
    (no_ 15 ∷ is_ 2 ∷ []) ∷ (is_ 15 ∷ no_ 1 ∷ no_ 2 ∷ []) ∷ (is_ 13 ∷ no_ 15 ∷ []) ∷ (no_ 13 ∷ is_ 15 ∷ []) ∷ (no_ 16 ∷ is_ 5 ∷ is_ 14 ∷ []) ∷
    (no_ 16 ∷ no_ 5 ∷ no_ 14 ∷ []) ∷ (is_ 16 ∷ no_ 5 ∷ is_ 14 ∷ []) ∷ (is_ 16 ∷ is_ 5 ∷ no_ 14 ∷ []) ∷ (no_ 16 ∷ is_ 12 ∷ []) ∷
    (no_ 19 ∷ is_ 18 ∷ is_ 17 ∷ []) ∷ (no_ 19 ∷ no_ 18 ∷ no_ 17 ∷ []) ∷ (is_ 19 ∷ no_ 18 ∷ is_ 17 ∷ []) ∷ (is_ 19 ∷ is_ 18 ∷ no_ 17 ∷ []) ∷
    (no_ 20 ∷ is_ 1 ∷ []) ∷ (no_ 20 ∷ is_ 2 ∷ []) ∷ (is_ 20 ∷ no_ 1 ∷ no_ 2 ∷ []) ∷ (is_ 18 ∷ no_ 20 ∷ []) ∷ (no_ 18 ∷ is_ 20 ∷ []) ∷
    (no_ 21 ∷ is_ 7 ∷ is_ 19 ∷ []) ∷ (no_ 21 ∷ no_ 7 ∷ no_ 19 ∷ []) ∷ (is_ 21 ∷ no_ 7 ∷ is_ 19 ∷ []) ∷ (is_ 21 ∷ is_ 7 ∷ no_ 19 ∷ []) ∷
    (no_ 21 ∷ is_ 17 ∷ []) ∷ (no_ 12 ∷ is_ 22 ∷ []) ∷ (no_ 17 ∷ is_ 22 ∷ []) ∷ (no_ 17 ∷ no_ 12 ∷ []) ∷ (no_ 25 ∷ is_ 24 ∷ is_ 23 ∷ []) ∷
    (no_ 25 ∷ no_ 24 ∷ no_ 23 ∷ []) ∷ (is_ 25 ∷ no_ 24 ∷ is_ 23 ∷ []) ∷ (is_ 25 ∷ is_ 24 ∷ no_ 23 ∷ []) ∷ (is_ 24 ∷ is_ 19 ∷ []) ∷
    (no_ 24 ∷ no_ 19 ∷ []) ∷ (no_ 26 ∷ is_ 9 ∷ is_ 25 ∷ []) ∷ (no_ 26 ∷ no_ 9 ∷ no_ 25 ∷ []) ∷ (is_ 26 ∷ no_ 9 ∷ is_ 25 ∷ []) ∷
    (is_ 26 ∷ is_ 9 ∷ no_ 25 ∷ []) ∷ (no_ 26 ∷ is_ 23 ∷ is_ 21 ∷ []) ∷ (no_ 22 ∷ is_ 27 ∷ []) ∷ (no_ 23 ∷ is_ 27 ∷ []) ∷ (no_ 23 ∷ no_ 22 ∷ []) ∷
    (no_ 30 ∷ is_ 29 ∷ is_ 28 ∷ []) ∷ (no_ 30 ∷ no_ 29 ∷ no_ 28 ∷ []) ∷ (is_ 30 ∷ no_ 29 ∷ is_ 28 ∷ []) ∷ (is_ 30 ∷ is_ 29 ∷ no_ 28 ∷ []) ∷
    (is_ 29 ∷ no_ 14 ∷ []) ∷ (no_ 29 ∷ is_ 14 ∷ []) ∷ (no_ 31 ∷ is_ 10 ∷ is_ 30 ∷ []) ∷ (no_ 31 ∷ no_ 10 ∷ no_ 30 ∷ []) ∷
    (is_ 31 ∷ no_ 10 ∷ is_ 30 ∷ []) ∷ (is_ 31 ∷ is_ 10 ∷ no_ 30 ∷ []) ∷ (no_ 31 ∷ is_ 28 ∷ is_ 16 ∷ []) ∷ (no_ 27 ∷ is_ 32 ∷ []) ∷
    (no_ 28 ∷ is_ 32 ∷ []) ∷ (no_ 28 ∷ no_ 27 ∷ []) ∷ (no_ 35 ∷ is_ 34 ∷ is_ 33 ∷ []) ∷ (no_ 35 ∷ no_ 34 ∷ no_ 33 ∷ []) ∷
    (is_ 35 ∷ no_ 34 ∷ is_ 33 ∷ []) ∷ (is_ 35 ∷ is_ 34 ∷ no_ 33 ∷ []) ∷ (is_ 34 ∷ no_ 25 ∷ []) ∷ (no_ 34 ∷ is_ 25 ∷ []) ∷
    (no_ 36 ∷ is_ 11 ∷ is_ 35 ∷ []) ∷ (no_ 36 ∷ no_ 11 ∷ no_ 35 ∷ []) ∷ (is_ 36 ∷ no_ 11 ∷ is_ 35 ∷ []) ∷ (is_ 36 ∷ is_ 11 ∷ no_ 35 ∷ []) ∷
    (no_ 36 ∷ is_ 33 ∷ is_ 26 ∷ []) ∷ (no_ 32 ∷ is_ 37 ∷ []) ∷ (no_ 33 ∷ is_ 37 ∷ []) ∷ (no_ 33 ∷ no_ 32 ∷ []) ∷ (no_ 38 ∷ is_ 3 ∷ is_ 5 ∷ []) ∷
    (no_ 38 ∷ no_ 3 ∷ no_ 5 ∷ []) ∷ (is_ 38 ∷ no_ 3 ∷ is_ 5 ∷ []) ∷ (is_ 38 ∷ is_ 3 ∷ no_ 5 ∷ []) ∷ (no_ 39 ∷ is_ 5 ∷ is_ 9 ∷ []) ∷
    (no_ 39 ∷ no_ 5 ∷ no_ 9 ∷ []) ∷ (is_ 39 ∷ no_ 5 ∷ is_ 9 ∷ []) ∷ (is_ 39 ∷ is_ 5 ∷ no_ 9 ∷ []) ∷ (no_ 40 ∷ is_ 10 ∷ is_ 11 ∷ []) ∷
    (no_ 40 ∷ no_ 10 ∷ no_ 11 ∷ []) ∷ (is_ 40 ∷ no_ 10 ∷ is_ 11 ∷ []) ∷ (is_ 40 ∷ is_ 10 ∷ no_ 11 ∷ []) ∷ (no_ 41 ∷ is_ 30 ∷ is_ 35 ∷ []) ∷
    (no_ 41 ∷ no_ 30 ∷ no_ 35 ∷ []) ∷ (is_ 41 ∷ no_ 30 ∷ is_ 35 ∷ []) ∷ (is_ 41 ∷ is_ 30 ∷ no_ 35 ∷ []) ∷ (no_ 42 ∷ is_ 41 ∷ []) ∷
    (no_ 42 ∷ is_ 16 ∷ []) ∷ (is_ 38 ∷ no_ 39 ∷ no_ 40 ∷ is_ 42 ∷ []) ∷ []

-- the question of the small netlist is these clauses
abbrev pub SmallQuestion : Type 0
SmallQuestion = question small_source small_netlist small_plan ≡ small_clauses
