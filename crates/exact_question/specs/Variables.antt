-- The variables of the exact question, and their numbers.
use Rattle.std.specs.Prelude.{ℕ, suc, Bool, ◌&&◌, List, [], ◌∷◌, ◌++◌, nat_eq, if◌then◌else◌}

-- the copies of covers: those of the source, those of the netlist without a fault, and those of the netlist with a failing cell
pub data Copy : Type 0 where
  Source : Copy
  Right : Copy
  Failing : Copy

-- what a variable stands for; nodes, rows, outputs and groups are counted from 0
pub data Variable : Type 0 where
  -- the bit of an input
  Input : ℕ → Variable
  -- the bit that the net of a node has in a copy; with a failing cell that is the wrong net
  Net : Copy → ℕ → Variable
  -- that a row of a node matches in a copy
  Row : Copy → ℕ → ℕ → Variable
  -- that a node is the cell that fails, and gives the other bit than its cover does
  Choice : ℕ → Variable
  -- the bit that the cover of a node gives while a cell fails
  Gate : ℕ → Variable
  -- that the net of a node has another bit while a cell fails
  Differs : ℕ → Variable
  -- that some node up to this one is chosen
  Chosen : ℕ → Variable
  -- that an output differs from the source's
  OutputDiffers : ℕ → Variable
  -- that a group has an odd number of ones among its first places: two of them at number 0, and one more at each further number
  Odd : ℕ → ℕ → Variable
  -- that the rails differ in a copy of the netlist
  RailsDiffer : Copy → Variable
  -- that a failing cell makes an output wrong while the rails differ
  Unheard : Variable

-- a kind of variable, and two numbers
pub record Key : Type 0 where
  pub kind : ℕ
  pub first : ℕ
  pub second : ℕ

abbrev pub keyed : ℕ → ℕ → ℕ → Key
keyed kind first second = record { kind = kind; first = first; second = second }

-- by its key a variable is told from all others
abbrev pub key : Variable → Key
key (Input i) = keyed 0 i 0
key (Net Source j) = keyed 1 j 0
key (Net Right j) = keyed 2 j 0
key (Net Failing j) = keyed 3 j 0
key (Row Source j r) = keyed 4 j r
key (Row Right j r) = keyed 5 j r
key (Row Failing j r) = keyed 6 j r
key (Choice j) = keyed 7 j 0
key (Gate j) = keyed 8 j 0
key (Differs j) = keyed 9 j 0
key (Chosen j) = keyed 10 j 0
key (OutputDiffers k) = keyed 11 k 0
key (Odd g k) = keyed 12 g k
key (RailsDiffer Source) = keyed 13 0 0
key (RailsDiffer Right) = keyed 14 0 0
key (RailsDiffer Failing) = keyed 15 0 0
key Unheard = keyed 16 0 0

abbrev pub is_key : Key → Key → Bool
is_key a b = nat_eq a.kind b.kind && (nat_eq a.first b.first && nat_eq a.second b.second)

-- the number of a variable: its place among the variables in their order
abbrev pub number_of : Variable → List Variable → ℕ
number_of v [] = 0
number_of v (w ∷ ws) = if is_key (key v) (key w) then 0 else suc (number_of v ws)

-- what is given for each item, with its place from 0 on, one after another
abbrev pub spread : {A B : Type 0} → (ℕ → A → List B) → List A → List B
spread f [] = []
spread f (a ∷ as_) = f 0 a ++ spread (λ k. f (suc k)) as_
