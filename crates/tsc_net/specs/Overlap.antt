-- Rows of a state table that overlap: they share a state and an input.
use Rattle.std.specs.Prelude.{◌==◌, ℕ, Bool, true, ◌&&◌, List, [], ◌∷◌, Option, Some, None, IsTrue, Contains}
use Rattle.tsc_bits.specs.Bits.{same}
use Rattle.tsc_cover.specs.Cover.{Literal, Free, Wants}
use Rattle.fault_secure.specs.Logic.{Transition, AnswersAlike}

-- some bit passes both literals
abbrev pub agree : Literal → Literal → Bool
agree Free other = true
agree (Wants wanted) Free = true
agree (Wants wanted) (Wants other) = same wanted other

-- some input passes the literals of both rows
abbrev pub inputs_meet : List Literal → List Literal → Bool
inputs_meet [] others = true
inputs_meet (l ∷ row) [] = true
inputs_meet (l ∷ row) (other ∷ others) = agree l other && inputs_meet row others

-- both rows start at some state: at the same, or one of them at every state
abbrev pub share_state : Option ℕ → Option ℕ → Bool
share_state None other = true
share_state (Some from) None = true
share_state (Some from) (Some other) = from == other

-- both rows answer at some state and input
abbrev pub overlap : Transition → Transition → Bool
overlap a b = share_state a.from b.from && inputs_meet a.input b.input

-- no two rows that overlap differ in the next state or in the outputs
abbrev pub AreConsistent : List Transition → Type 0
AreConsistent rows =
    (a b : Transition) → Contains rows a → Contains rows b → IsTrue (overlap a b) → AnswersAlike a b
