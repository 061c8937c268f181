-- Whether blocks give the covers of their nodes.
use Rattle.std.specs.Prelude.{◌≡◌, ℕ, ◌<◌, ◌⊎◌, List, length, slice_index}
use Rattle.fault_secure.specs.Circuit.{Circuit}
use Rattle.tsc_net.specs.Order.{fan_ins, evaluation_order}
use Rattle.mapping_reading.specs.ReadMapping.{block_pins, IsSameGate, GivesCover, MissesFirst}
use Rattle.mapping_reading.specs.Pins.{at_of}

-- the node's gate is the very node, or its block gives its cover's bit on each value
abbrev pub IsRealised : Circuit → Circuit → List ℕ → List ℕ → ℕ → Type 0
IsRealised N G moved blocks j = IsSameGate N G (at_of G moved) j ⊎ GivesCover N G (at_of G moved) (slice_index blocks) (evaluation_order (fan_ins G)) j

-- it isn't, and this is the first value on which the block gives the other bit, of so many distinct pins
pub record Misses (N G : Circuit) (moved blocks : List ℕ) (j value width : ℕ) : Type 0 where
  pub differs : IsSameGate N G (at_of G moved) j → ⊥
  pub first : MissesFirst N G (at_of G moved) (slice_index blocks) (evaluation_order (fan_ins G)) j value
  pub pins : width ≡ length (block_pins N (at_of G moved) j)

-- the first such node
pub record IsFirstFailing (N G : Circuit) (moved blocks : List ℕ) (j value width : ℕ) : Type 0 where
  pub inside : j < length N.nodes
  pub misses : Misses N G moved blocks j value width
  pub earlier : (k : ℕ) → k < j → IsRealised N G moved blocks k
