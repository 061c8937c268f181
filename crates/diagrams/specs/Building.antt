-- What a call that builds a function leaves.
use Rattle.std.specs.Prelude.{◌≡◌, ℕ, ◌<◌, ◌≤◌, true, false, if◌then◌else◌, nat_eq, Some, List, [], ◌∷◌, length, slice_index_or}
use Rattle.std.specs.HashMap.{HashMap, get}
use Rattle.diagrams.specs.declared.decision.Decision.{Decision}
use Rattle.diagrams.specs.declared.memo.Operation.{Operation}
use Rattle.diagrams.specs.declared.memo.Operation.TheVariants.{And}
use Rattle.diagrams.specs.declared.memo.Memo.{Memo}
use Rattle.diagrams.specs.Operations.{combined}
use Rattle.diagrams.specs.DecisionRows.{word_of}
use Rattle.diagrams.specs.Decisions.{row, value, constant, IsDiagram}
use Rattle.diagrams.specs.Cofactors.{Function, Same, IsCofactorOfOne}

-- what contracts see of diagrams: the number of inputs, how many rows there can be, and the rows
pub record DiagramState : Type 0 where
  pub inputs : ℕ
  pub room : ℕ
  pub rows : List Decision

-- the rows of the constants
abbrev pub constants : ℕ → List Decision
constants inputs = constant inputs 0 ∷ constant inputs 1 ∷ []

-- the function that an operation makes of those of two rows
abbrev pub combined_rows : Operation → List Decision → ℕ → ℕ → Function
combined_rows operation rows f g x = combined operation (value rows f x) (value rows g x)

-- the constant function 0
abbrev pub no_input : Function
no_input x = false

-- the constant function 1
abbrev pub any_input : Function
any_input x = true

-- the function that is an input
abbrev pub input_bit : ℕ → Function
input_bit input x = slice_index_or x input false

-- the function of one row where an input is 0, and of another where it is 1
abbrev pub choice : List Decision → ℕ → ℕ → ℕ → Function
choice rows input low high x = if slice_index_or x input false then value rows high x else value rows low x

-- the old rows are the first of the new ones
pub record Extends (old new : List Decision) : Type 0 where
  pub longer : length old ≤ length new
  pub kept : (k : ℕ) → k < length old → row new k ≡ row old k

-- rows were added for the sake of some functions: all that was stays, and each row that came stands for a cofactor of one of them
pub record AreMade (old new : DiagramState) (fs : List Function) : Type 0 where
  pub inputs : new.inputs ≡ old.inputs
  pub room : new.room ≡ old.room
  pub diagram : IsDiagram new.inputs new.rows
  pub within : length new.rows ≤ new.room
  pub extends : Extends old.rows new.rows
  pub cofactors : (k : ℕ) → length old.rows ≤ k → k < length new.rows → IsCofactorOfOne new.inputs fs (value new.rows k)

-- the row stands for the function
pub record StandsFor (state : DiagramState) (f : Function) (k : ℕ) : Type 0 where
  pub node : k < length state.rows
  pub is : Same state.inputs (value state.rows k) f

-- there is no room left, and a cofactor of one of the functions that no row stands for
pub record AreShort (state : DiagramState) (fs : List Function) : Type 0 where
  pub full : length state.rows ≡ state.room
  pub missing : Function
  pub needed : IsCofactorOfOne state.inputs fs missing
  pub absent : (k : ℕ) → k < length state.rows → Same state.inputs (value state.rows k) missing → ⊥

-- each of the functions has a row
pub record HaveRows (state : DiagramState) (fs : List Function) : Type 0 where
  pub at : (i : ℕ) (d : Function) → i < length fs → (k : ℕ) × StandsFor state (slice_index_or fs i d) k

-- the row decides so, and is no constant
pub record IsRowOf (rows : List Decision) (d : Decision) (k : ℕ) : Type 0 where
  pub big : 2 ≤ k
  pub node : k < length rows
  pub is : row rows k ≡ d

-- no row decides so
abbrev pub HasNoRow : List Decision → Decision → Type 0
HasNoRow rows d = (k : ℕ) → 2 ≤ k → k < length rows → row rows k ≡ d → ⊥

-- a memo says what is so: its three rows are rows, and the third one's function is what the operation makes of the others'
pub record IsRight (inputs : ℕ) (rows : List Decision) (memo : Memo) : Type 0 where
  pub first : memo.first < length rows
  pub second : memo.second < length rows
  pub result : memo.result < length rows
  pub is : Same inputs (value rows memo.result) (combined_rows memo.operation rows memo.first memo.second)

-- a memo of what is always so
abbrev pub no_memo : Memo
no_memo = record { operation = And; first = 0; second = 0; result = 0 }

-- each row except the constants is found by the word of its decision, and nothing else is
pub record IsIndex {S : Type 0} (rows : List Decision) (index : HashMap ℕ ℕ S) : Type 0 where
  pub has : (k : ℕ) → 2 ≤ k → k < length rows → get nat_eq index (word_of (row rows k)) ≡ Some k
  pub finds : (word k : ℕ) → get nat_eq index word ≡ Some k → (2 ≤ k) × (k < length rows) × (word_of (row rows k) ≡ word)

-- what is true of every value of diagrams
pub record IsSound {S : Type 0} (inputs room : ℕ) (rows : List Decision) (index : HashMap ℕ ℕ S) (memos : List Memo) : Type 0 where
  pub diagram : IsDiagram inputs rows
  pub few : inputs ≤ 1024
  pub small : room ≤ 4194304
  pub within : length rows ≤ room
  pub indexed : IsIndex rows index
  pub some : 0 < length memos
  pub right : (i : ℕ) → i < length memos → IsRight inputs rows (slice_index_or memos i no_memo)
