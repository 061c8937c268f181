-- What owners and blocks that are found of gates say of every reading: the statements of the laws.
use Rattle.std.specs.Prelude.{◌≡◌, ℕ, ◌<◌, ◌⊎◌, List, length, slice_index}
use Rattle.fault_secure.specs.Circuit.{Circuit}
use Rattle.fault_secure.specs.Settle.{Acyclic}
use Rattle.fault_secure.specs.Closed.{IsClosed}
use Rattle.tsc_net.specs.Order.{fan_ins, evaluation_order, IsOrder}
use Rattle.mapping_reading.specs.ReadMapping.{IsSameGate, GivesCover, MissesFirst, IsReadMapping}
use Rattle.mapping_reading.specs.Pins.{at_of, AreWell, IsFirstOpen}
use Rattle.mapping_reading.specs.Blocks.{AreBlocks, IsFirstShared}
use Rattle.mapping_reading.specs.Leads.{AreOwners}
use Rattle.mapping_reading.specs.MovedNets.{HaveMoved, ReadsAsMapped}

-- G has an evaluation order, and these are the owners of its gates and their blocks, where nets went by the table
pub record AreFound (N G : Circuit) (moved owners blocks : List ℕ) : Type 0 where
  pub ordered : IsOrder (fan_ins G) (evaluation_order (fan_ins G))
  pub owned : AreOwners N G (at_of G moved) owners
  pub led : AreBlocks G owners (length N.nodes) blocks

-- the netlists determine them
abbrev pub FoundAreOne : Type 0
FoundAreOne = (N G : Circuit) (moved owners blocks others those : List ℕ) → HaveMoved N G moved → AreFound N G moved owners blocks
    → AreFound N G moved others those → (owners ≡ others) × (blocks ≡ those)

-- where no pin is open, and each node's gate is the very node or its block gives the cover, G reads as N mapped, by the found blocks
abbrev pub FoundBlocksRead : Type 0
FoundBlocksRead = (N G : Circuit) (moved owners blocks : List ℕ) → HaveMoved N G moved → AreFound N G moved owners blocks
    → (0 < length G.nodes → 0 < length N.nodes) → AreWell N G (at_of G moved) (slice_index blocks)
    → ((j : ℕ) → j < length N.nodes
    → IsSameGate N G (at_of G moved) j ⊎ GivesCover N G (at_of G moved) (slice_index blocks) (evaluation_order (fan_ins G)) j)
    → IsReadMapping N G (at_of G moved) (slice_index blocks) (evaluation_order (fan_ins G))

-- it doesn't, by any blocks, where there are gates and no nodes
abbrev pub NoNodesRefute : Type 0
NoNodesRefute = (N G : Circuit) (moved : List ℕ) → length N.nodes ≡ 0 → 0 < length G.nodes → ReadsAsMapped N G moved → ⊥

-- nor where a gate leads to two blocks
abbrev pub SharedGateRefutes : Type 0
SharedGateRefutes = (N G : Circuit) (moved owners blocks : List ℕ) (d : ℕ) → AreFound N G moved owners blocks
    → IsFirstShared G owners (length N.nodes) blocks d → ReadsAsMapped N G moved → ⊥

-- nor where a pin is open
abbrev pub OpenPinRefutes : Type 0
OpenPinRefutes = (N G : Circuit) (moved owners blocks : List ℕ) (g pin : ℕ) → AreFound N G moved owners blocks
    → IsFirstOpen N G (at_of G moved) (slice_index blocks) g pin → ReadsAsMapped N G moved → ⊥

-- nor where a block doesn't give its cover, if N has no ring
abbrev pub MissedCoverRefutes : Type 0
MissedCoverRefutes = (N G : Circuit) (moved owners blocks : List ℕ) (j value : ℕ) → IsClosed N → Acyclic N → IsClosed G
    → AreFound N G moved owners blocks → j < length N.nodes
    → MissesFirst N G (at_of G moved) (slice_index blocks) (evaluation_order (fan_ins G)) j value → ReadsAsMapped N G moved → ⊥

-- each reason has one place: there is one first gate that is shared, one first pin that is open, one first value that a block misses
pub record FirstsAreOne : Type 0 where
  pub gates : (G : Circuit) (owners : List ℕ) (none : ℕ) (blocks : List ℕ) (d e : ℕ) → IsFirstShared G owners none blocks d
      → IsFirstShared G owners none blocks e → d ≡ e
  pub pins : (N G : Circuit) (at block : ℕ → ℕ) (g pin h other : ℕ) → IsFirstOpen N G at block g pin
      → IsFirstOpen N G at block h other → (g ≡ h) × (pin ≡ other)
  pub values : (N G : Circuit) (at block : ℕ → ℕ) (order : List ℕ) (j value other : ℕ) → MissesFirst N G at block order j value
      → MissesFirst N G at block order j other → value ≡ other
