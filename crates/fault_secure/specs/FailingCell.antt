-- A failing cell: the latch or node that drives a net gives it any bits at all, while all other cells work.
use Rattle.std.specs.Prelude.{◌≡◌, ℕ, ◌<◌, ◌≤◌, Bool, List, [], ◌∷◌, length, map}
use Rattle.fault_secure.specs.Circuit.{Circuit, latch_net, node_net, nets, bit}
use Rattle.fault_secure.specs.StuckAt.{NoFault}
use Rattle.fault_secure.specs.Settle.{node_value}
use Rattle.fault_secure.specs.Run.{init_state, next_state}

-- the net is a cell's: a latch gives it, or a node drives it
pub record IsCell (N : Circuit) (cell : ℕ) : Type 0 where
  pub no_input : N.inputs ≤ cell
  pub inside : cell < nets N

-- the valuation v settles at every net except the cell's, with the input bits x and the state bits s
pub record SettlesBut (N : Circuit) (cell : ℕ) (x s : ℕ → Bool) (v : List Bool) : Type 0 where
  pub sized : length v ≡ nets N
  pub inputs : (i : ℕ) → i < N.inputs → bit v i ≡ x i
  pub latches : (l : ℕ) → l < length N.latches → (latch_net N l ≡ cell → ⊥) → bit v (latch_net N l) ≡ s l
  pub nodes : (j : ℕ) → j < length N.nodes → (node_net N j ≡ cell → ⊥) → bit v (node_net N j) ≡ node_value N NoFault v j

-- from the state bits s on: at each step the valuation settles at every net except the cell's
abbrev pub RunsButFrom : Circuit → ℕ → List Bool → List (List Bool) → List (List Bool) → Type 0
RunsButFrom N cell s [] [] = Unit {0}
RunsButFrom N cell s (x ∷ xs) (v ∷ vs) = SettlesBut N cell (bit x) (bit s) v × RunsButFrom N cell (next_state N NoFault v) xs vs
RunsButFrom N cell s [] (v ∷ vs) = ⊥
RunsButFrom N cell s (x ∷ xs) [] = ⊥

-- a run over the inputs xs in which one cell fails, at any steps and in any way
abbrev pub RunsBut : Circuit → ℕ → List (List Bool) → List (List Bool) → Type 0
RunsBut N cell xs vs = RunsButFrom N cell (init_state N) xs vs

-- the bits that a net has, step by step
abbrev pub bits_over : List (List Bool) → ℕ → List Bool
bits_over vs net = map (λ v. bit v net) vs

-- there is exactly one run in which the failing cell gives these bits, one per step
pub record HasOneRunBut (N : Circuit) (cell : ℕ) (bits : List Bool) (xs : List (List Bool)) : Type 0 where
  pub run : List (List Bool)
  pub runs : RunsBut N cell xs run
  pub gives : bits_over run cell ≡ bits
  pub only : (vs : List (List Bool)) → RunsBut N cell xs vs → bits_over vs cell ≡ bits → vs ≡ run
