-- The gates of each block as a chain: from its head, each gate gives the next.
use Rattle.std.specs.Prelude.{◌≡◌, ℕ, ◌<◌, List, [], ◌∷◌, length, drop, slice_index}
use Rattle.mapping_reading.specs.ReadMapping.{members}

-- from `gate` on the chain has exactly these gates; `end`, which is past all gates, is its end
abbrev pub IsChain : List ℕ → ℕ → ℕ → List ℕ → Type 0
IsChain next end gate [] = gate ≡ end
IsChain next end gate (g ∷ gates) = (gate ≡ g) × (g < end) × IsChain next end (slice_index next g) gates

-- the chain of each block has its gates from a place of the order on, in the order
pub record AreChainsFrom (order : List ℕ) (none end : ℕ) (blocks : List ℕ) (place : ℕ) (heads next : List ℕ) : Type 0 where
  pub headed : length heads ≡ none
  pub sized : length next ≡ end
  pub chains : (j : ℕ) → j < none → IsChain next end (slice_index heads j) (members (slice_index blocks) (drop place order) j)

-- the chain of each block has all of its gates
pub record AreChains (order : List ℕ) (none end : ℕ) (blocks heads next : List ℕ) : Type 0 where
  pub headed : length heads ≡ none
  pub sized : length next ≡ end
  pub chains : (j : ℕ) → j < none → IsChain next end (slice_index heads j) (members (slice_index blocks) order j)
