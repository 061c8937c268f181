-- Covers that are too wide to be tried value by value.
use Rattle.std.specs.Prelude.{ℕ, ◌<◌, length}
use Rattle.fault_secure.specs.Circuit.{Circuit}
use Rattle.mapping_reading.specs.ReadMapping.{block_pins, IsSameGate}

-- the node's gate isn't the very node, and its cover has more than 20 distinct pins
pub record IsWideCover (N G : Circuit) (at : ℕ → ℕ) (j : ℕ) : Type 0 where
  pub differs : IsSameGate N G at j → ⊥
  pub many : 20 < length (block_pins N at j)

-- the first such node
pub record IsFirstWide (N G : Circuit) (at : ℕ → ℕ) (j : ℕ) : Type 0 where
  pub inside : j < length N.nodes
  pub wide : IsWideCover N G at j
  pub first : (k : ℕ) → k < j → IsWideCover N G at k → ⊥
