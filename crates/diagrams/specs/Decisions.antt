-- Decision diagrams: rows, each of which decides one input, and the function that a row stands for. Rows 0 and 1 are the constants.
use Rattle.std.specs.Prelude.{◌≡◌, ℕ, suc, ◌<◌, ◌≤◌, Bool, if◌then◌else◌, nat_eq, List, [], ◌∷◌, length, slice_index_or}
use Rattle.diagrams.specs.declared.decision.Decision.{Decision}

abbrev pub no_decision : Decision
no_decision = record { input = 0; low = 0; high = 0 }

-- the row with this number
abbrev pub row : List Decision → ℕ → Decision
row rows k = slice_index_or rows k no_decision

-- where a walk that stands at row `k` stands once it has read the bit of input `level`: a row of that input goes on to its low or its high end, another stays
abbrev pub step : List Decision → ℕ → ℕ → Bool → ℕ
step rows level k b = if nat_eq (row rows k).input level then (if b then (row rows k).high else (row rows k).low) else k

-- where a walk from row `k` ends that reads these bits of the inputs from `level` on
abbrev pub walk : List Decision → ℕ → ℕ → List Bool → ℕ
walk rows level k [] = k
walk rows level k (b ∷ bits) = walk rows (suc level) (step rows level k b) bits

-- the function of row `k`: whether the walk over the bits of all inputs ends at row 1
abbrev pub value : List Decision → ℕ → List Bool → Bool
value rows k x = nat_eq (walk rows 0 k x) 1

-- this is a row, and it decides no input before `level`
pub record IsAt (rows : List Decision) (level k : ℕ) : Type 0 where
  pub node : k < length rows
  pub above : level ≤ (row rows k).input

-- a row that decides an input goes on to two different rows of later inputs
pub record IsDecision (inputs : ℕ) (rows : List Decision) (d : Decision) : Type 0 where
  pub input : d.input < inputs
  pub low : IsAt rows (suc d.input) d.low
  pub high : IsAt rows (suc d.input) d.high
  pub differ : d.low ≡ d.high → ⊥

-- the row of a constant over so many inputs, which goes nowhere
abbrev pub constant : ℕ → ℕ → Decision
constant inputs k = record { input = inputs; low = k; high = k }

-- a reduced and ordered diagram over so many inputs: the two constants come first, every other row decides an input, and no two of them decide alike
pub record IsDiagram (inputs : ℕ) (rows : List Decision) : Type 0 where
  pub constants : 2 ≤ length rows
  pub zero : row rows 0 ≡ constant inputs 0
  pub one : row rows 1 ≡ constant inputs 1
  pub decides : (k : ℕ) → 2 ≤ k → k < length rows → IsDecision inputs rows (row rows k)
  pub once : (j k : ℕ) → 2 ≤ j → j < k → k < length rows → row rows j ≡ row rows k → ⊥
