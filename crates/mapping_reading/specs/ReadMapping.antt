-- A mapping that is read: what is tested of two netlists, clause by clause, where each net went by its name.
use Rattle.std.specs.Prelude.{◌≡◌, ℕ, ◌+◌, ◌-◌, ◌<◌, ◌≤◌, ◌^◌, ◌==◌, ◌⊎◌, nat_le, nat_lt, Bool, true, false, ◌&&◌, ◌||◌, if◌then◌else◌, List, [], ◌∷◌, ◌++◌, length, map, replicate, slice_set}
use Rattle.std.specs.List.{filter}
use Rattle.tsc_bits.specs.Bits.{bits_of}
use Rattle.tsc_cover.specs.Cover.{truth}
use Rattle.fault_secure.specs.Circuit.{Circuit, node, node_net, pin_net, nets, bit, gate}
use Rattle.mapping_laws.specs.Mapping.{moved_latch}
use Rattle.tsc_net.specs.Order.{has_place}

-- ---- blocks

-- the net of the first node or gate: those below it are inputs' and latches'
abbrev pub first_net : Circuit → ℕ
first_net G = G.inputs + length G.latches

-- a gate of block j drives the net
abbrev pub is_own : Circuit → (ℕ → ℕ) → ℕ → ℕ → Bool
is_own G block j net = nat_le (first_net G) net && (nat_lt net (nets G) && (block (net - first_net G) == j))

-- the nets seen so far, and those of a list that are new, each at its first place
abbrev pub new_onto : List ℕ → List ℕ → List ℕ
new_onto seen [] = seen
new_onto seen (net ∷ list) = new_onto (if has_place seen net then seen else seen ++ net ∷ []) list

-- the distinct nets at the pins of node j's cover, where they went, in the order of their first place
abbrev pub block_pins : Circuit → (ℕ → ℕ) → ℕ → List ℕ
block_pins N at j = new_onto [] (map at (node N j).reads)

-- the gates of block j, in the order
abbrev pub members : (ℕ → ℕ) → List ℕ → ℕ → List ℕ
members block order j = filter (λ g. block g == j) order

-- ---- one value of the pins

-- what a gate makes of the bits in a row, one a net
abbrev pub gate_bit : Circuit → List Bool → ℕ → Bool
gate_bit G row g = truth (node G g).cover (map (bit row) (node G g).reads)

-- the row after these gates, one after the other, have set the bits of their nets
abbrev pub evaluated : Circuit → List ℕ → List Bool → List Bool
evaluated G [] row = row
evaluated G (g ∷ gates) row = evaluated G gates (slice_set row (node_net G g) (gate_bit G row g))

-- the row with these bits at these nets
abbrev pub with_bits : List ℕ → List Bool → List Bool → List Bool
with_bits [] bits row = row
with_bits (pin ∷ pins) [] row = row
with_bits (pin ∷ pins) (b ∷ bits) row = with_bits pins bits (slice_set row pin b)

-- all nets 0 but the pins of block j, which have this value, the first most significant
abbrev pub pin_row : Circuit → Circuit → (ℕ → ℕ) → ℕ → ℕ → List Bool
pin_row N G at j value = with_bits (block_pins N at j) (bits_of (length (block_pins N at j)) value) (replicate (nets G) false)

-- what the block gives for this value of its pins
abbrev pub block_bit : Circuit → Circuit → (ℕ → ℕ) → (ℕ → ℕ) → List ℕ → ℕ → ℕ → Bool
block_bit N G at block order j value = bit (evaluated G (members block order j) (pin_row N G at j value)) (at (node_net N j))

-- what the node's cover gives for this value of the block's pins
abbrev pub cover_bit : Circuit → Circuit → (ℕ → ℕ) → ℕ → ℕ → Bool
cover_bit N G at j value = truth (node N j).cover (map (λ net. bit (pin_row N G at j value) (at net)) (node N j).reads)

-- ---- the mapping

-- the gate that drives the node's net is the node itself, with its nets moved
abbrev pub IsSameGate : Circuit → Circuit → (ℕ → ℕ) → ℕ → Type 0
IsSameGate N G at j = node G (at (node_net N j) - first_net G) ≡ gate (node N j).cover (map at (node N j).reads)

-- on each value of the pins the block gives the cover's bit
abbrev pub GivesCover : Circuit → Circuit → (ℕ → ℕ) → (ℕ → ℕ) → List ℕ → ℕ → Type 0
GivesCover N G at block order j =
    (value : ℕ) → value < 2 ^ length (block_pins N at j) → block_bit N G at block order j value ≡ cover_bit N G at j value

-- the first value of the pins on which the block doesn't give the cover's bit
pub record MissesFirst (N G : Circuit) (at block : ℕ → ℕ) (order : List ℕ) (j value : ℕ) : Type 0 where
  pub inside : value < 2 ^ length (block_pins N at j)
  pub missed : block_bit N G at block order j value ≡ cover_bit N G at j value → ⊥
  pub first : (earlier : ℕ) → earlier < value → block_bit N G at block order j earlier ≡ cover_bit N G at j earlier

-- G reads as N mapped cover by cover. The inputs, the latches and the outputs are the same, where nets went; a gate of its own block
-- drives the net of each node; each gate of a node's block reads nets of its own block and nets at the pins of its cover; and the block
-- gives the cover's bit on each value of its pins, evaluated once in the order, or its gate is the very node. A gate of which `block`
-- gives no node is of no block: none of these gates reads it
pub record IsReadMapping (N G : Circuit) (at block : ℕ → ℕ) (order : List ℕ) : Type 0 where
  pub inputs : G.inputs ≡ N.inputs
  pub latches : G.latches ≡ map (moved_latch at) N.latches
  pub outputs : G.outputs ≡ map at N.outputs
  pub sources : (net : ℕ) → net < first_net N → at net ≡ net
  pub beyond : (net : ℕ) → nets N ≤ net → nets G ≤ at net
  pub some_node : 0 < length G.nodes → 0 < length N.nodes
  pub driven : (j : ℕ) → j < length N.nodes → is_own G block j (at (node_net N j)) ≡ true
  pub pins : (g pin : ℕ) → g < length G.nodes → block g < length N.nodes → pin < length (node G g).reads
      → (is_own G block (block g) (pin_net G g pin) || has_place (block_pins N at (block g)) (pin_net G g pin)) ≡ true
  pub covers : (j : ℕ) → j < length N.nodes → IsSameGate N G at j ⊎ GivesCover N G at block order j

-- the block of each gate, where one of no block is put into the first
abbrev pub some_block : Circuit → (ℕ → ℕ) → ℕ → ℕ
some_block N block g = if nat_lt (block g) (length N.nodes) then block g else 0
