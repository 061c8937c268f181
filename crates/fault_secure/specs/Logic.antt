-- The logic that is made self-checking: what a network, a completed state table or a network with free bits answers, and what it allows.
use Rattle.std.specs.Prelude.{◌≡◌, ℕ, ◌+◌, ◌<◌, ◌==◌, ◌⊎◌, Bool, true, false, not, ◌&&◌, List, [], ◌∷◌, map, length, replicate, filter, slice_index_or, Option, Some, None, IsTrue, IsFalse, All, Contains}
use Rattle.std.specs.List.{list_all}
use Rattle.tsc_cover.specs.Cover.{Literal, accepts}
use Rattle.fault_secure.specs.Circuit.{Circuit, bit}
use Rattle.fault_secure.specs.StuckAt.{NoFault}
use Rattle.fault_secure.specs.Settle.{Settles}

-- a row of a state table after completion: where it starts (at every state where none is named), what it asks of the
-- inputs, the next state and whether the row names it, the outputs and which of them the row specifies
pub record Transition : Type 0 where
  pub input : List Literal
  pub from : Option ℕ
  pub next : ℕ
  pub named : Bool
  pub outputs : List Bool
  pub care : List Bool

-- a state table: how many inputs, outputs and states it has, its reset state, and its rows
pub record StateTable : Type 0 where
  pub inputs : ℕ
  pub outputs : ℕ
  pub states : ℕ
  pub reset : ℕ
  pub rows : List Transition

-- a network, a state table, or a loose source: a network of the chosen values, and one whose outputs tell which of these are free
pub data Logic : Type 0 where
  Network : Circuit → Logic
  States : StateTable → Logic
  Loose : Circuit → Circuit → Logic

-- a row with this current state starts at state q; one with none starts at every state
abbrev pub starts_at : Option ℕ → ℕ → Bool
starts_at None q = true
starts_at (Some from) q = from == q

-- the literals, of which the first asks for input number i, let the input bits pass; a missing bit is 0, as it is everywhere
abbrev pub lets_pass : ℕ → List Literal → List Bool → Bool
lets_pass i [] x = true
lets_pass i (l ∷ row) x = accepts l (bit x i) && lets_pass (i + 1) row x

-- the row answers at this state and input
abbrev pub applies : ℕ → List Bool → Transition → Bool
applies q x row = starts_at row.from q && lets_pass 0 row.input x

-- the rows that answer at this state and input
abbrev pub answering : StateTable → ℕ → List Bool → List Transition
answering M q x = filter (applies q x) M.rows

-- the chosen answer: that of a row that answers, and the reset state with all outputs 0 where none does
abbrev pub outputs_of_rows : StateTable → List Transition → List Bool
outputs_of_rows M [] = replicate M.outputs false
outputs_of_rows M (row ∷ rows) = row.outputs

-- the chosen next state: that of the first of these rows, and the reset state where there is none
abbrev pub next_of_rows : StateTable → List Transition → ℕ
next_of_rows M [] = M.reset
next_of_rows M (row ∷ rows) = row.next

-- the row specifies the output at this place; one that its list doesn't reach is specified
abbrev pub specifies : Transition → ℕ → Bool
specifies row place = slice_index_or row.care place true

-- under version 2 an output is free where no row that answers specifies it, and the next state where none names it
abbrev pub is_free_output : ℕ → List Transition → ℕ → Bool
is_free_output version rows place = (version == 2) && list_all (λ row. not (specifies row place)) rows

-- under version 2 the next state is free where none of these rows names it
abbrev pub is_free_next : ℕ → List Transition → Bool
is_free_next version rows = (version == 2) && list_all (λ row. not row.named) rows

-- how many states a source has, and which it is reset to
abbrev pub states_of : Logic → ℕ
states_of (Network C) = 1
states_of (States M) = M.states
states_of (Loose V F) = 1

-- the state that a source is reset to: that of a state table, and otherwise 0
abbrev pub reset_of : Logic → ℕ
reset_of (Network C) = 0
reset_of (States M) = M.reset
reset_of (Loose V F) = 0

-- how many inputs a source has
abbrev pub inputs_of : Logic → ℕ
inputs_of (Network C) = C.inputs
inputs_of (States M) = M.inputs
inputs_of (Loose V F) = V.inputs

-- how many outputs a source has
abbrev pub outputs_count : Logic → ℕ
outputs_count (Network C) = length C.outputs
outputs_count (States M) = M.outputs
outputs_count (Loose V F) = length V.outputs

-- a network answers with the outputs of a valuation that settles without a fault
pub record NetworkAnswers (C : Circuit) (x ys : List Bool) : Type 0 where
  pub valuation : List Bool
  pub settles : Settles C NoFault (bit x) (λ _. false) valuation
  pub answers : map (bit valuation) C.outputs ≡ ys

-- a network without latches has the bit at an output's place
pub record NetworkHas (C : Circuit) (x : List Bool) (place : ℕ) (b : Bool) : Type 0 where
  pub valuation : List Bool
  pub settles : Settles C NoFault (bit x) (λ _. false) valuation
  pub has : bit (map (bit valuation) C.outputs) place ≡ b

-- under version 2 an output of a loose source is free where the same output of the second network is 1
abbrev pub IsLooseOutput : Circuit → ℕ → List Bool → ℕ → Type 0
IsLooseOutput F version x place = (version ≡ 2) × NetworkHas F x place true

-- each output that isn't free is the one that the first network answers
pub record LooseAllows (V F : Circuit) (version : ℕ) (x ys : List Bool) : Type 0 where
  pub chosen : List Bool
  pub answers : NetworkAnswers V x chosen
  pub sized : length ys ≡ length V.outputs
  pub each : (place : ℕ) → place < length V.outputs → IsLooseOutput F version x place ⊎ (bit ys place ≡ bit chosen place)

-- each output that isn't free is the chosen one
pub record TableAllows (M : StateTable) (version : ℕ) (rows : List Transition) (ys : List Bool) : Type 0 where
  pub sized : length ys ≡ M.outputs
  pub each : (place : ℕ) → place < M.outputs
      → IsTrue (is_free_output version rows place) ⊎ (bit ys place ≡ bit (outputs_of_rows M rows) place)

-- the source allows these outputs at a state and input, under a plan of this version
abbrev pub AllowsOutputs : Logic → ℕ → ℕ → List Bool → List Bool → Type 0
AllowsOutputs (Network C) version q x ys = NetworkAnswers C x ys
AllowsOutputs (States M) version q x ys = TableAllows M version (answering M q x) ys
AllowsOutputs (Loose V F) version q x ys = LooseAllows V F version x ys

-- the source allows this state as the next one
abbrev pub AllowsNext : Logic → ℕ → ℕ → List Bool → ℕ → Type 0
AllowsNext (Network C) version q x next = next ≡ 0
AllowsNext (Loose V F) version q x next = next ≡ 0
AllowsNext (States M) version q x next =
    (next ≡ next_of_rows M (answering M q x)) ⊎ (IsTrue (is_free_next version (answering M q x)) × (next < M.states))

-- a row of a state table: as many literals as inputs, as many outputs and marks as outputs. Its states are the table's, an output
-- that it doesn't specify is 0, and a next state that it doesn't name is the reset state
pub record IsTransitionOf (M : StateTable) (row : Transition) : Type 0 where
  pub input : length row.input ≡ M.inputs
  pub outputs : length row.outputs ≡ M.outputs
  pub care : length row.care ≡ M.outputs
  pub from : (q : ℕ) → row.from ≡ Some q → q < M.states
  pub next : row.next < M.states
  pub specified : (place : ℕ) → place < M.outputs → IsFalse (specifies row place) → IsFalse (bit row.outputs place)
  pub unnamed : IsFalse row.named → row.next ≡ M.reset

-- two rows have the same next state and the same outputs
pub record AnswersAlike (a b : Transition) : Type 0 where
  pub next : a.next ≡ b.next
  pub outputs : a.outputs ≡ b.outputs

-- a state table: its reset state is a state, and no two rows of a state meet in an input and differ
pub record IsStateTable (M : StateTable) : Type 0 where
  pub reset : M.reset < M.states
  pub rows : All (IsTransitionOf M) M.rows
  pub consistent : (q : ℕ) (x : List Bool) (a b : Transition) → Contains M.rows a → Contains M.rows b
      → IsTrue (applies q x a) → IsTrue (applies q x b) → AnswersAlike a b
