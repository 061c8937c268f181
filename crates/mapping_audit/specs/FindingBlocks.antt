-- How owners and blocks of gates are found: what holds on the way.
use Rattle.std.specs.Prelude.{◌≡◌, ℕ, ◌-◌, ◌<◌, ◌≤◌, nat_le, nat_lt, ◌==◌, not, ◌&&◌, if◌then◌else◌, List, [], ◌∷◌, length, slice_index, slice_set}
use Rattle.fault_secure.specs.Circuit.{Circuit, node_net}
use Rattle.tsc_net.specs.Order.{place_in}
use Rattle.mapping_reading.specs.ReadMapping.{first_net}
use Rattle.mapping_reading.specs.Blocks.{Reads}

-- the owners, where the nets of the first nodes were looked at
pub record AreOwnersTo (N G : Circuit) (at : ℕ → ℕ) (place : ℕ) (owners : List ℕ) : Type 0 where
  pub sized : length owners ≡ length G.nodes
  pub few : (g : ℕ) → slice_index owners g ≤ length N.nodes
  pub owns : (g : ℕ) → g < length G.nodes → slice_index owners g < length N.nodes → at (node_net N (slice_index owners g)) ≡ node_net G g
  pub mine : (j : ℕ) → j < place → slice_index owners (at (node_net N j) - first_net G) ≡ j

-- the blocks, where the gates from a place of the order on were looked at: only these count as readers
pub record AreBlocksFrom (G : Circuit) (order owners : List ℕ) (none place : ℕ) (blocks : List ℕ) : Type 0 where
  pub sized : length blocks ≡ length G.nodes
  pub few : (g : ℕ) → g < length G.nodes → slice_index blocks g ≤ none
  pub owned : (g : ℕ) → g < length G.nodes → slice_index owners g < none → slice_index blocks g ≡ slice_index owners g
  pub least : (d h : ℕ) → d < length G.nodes → h < length G.nodes → none ≤ slice_index owners d → place ≤ place_in order h → Reads G h d
      → slice_index blocks d ≤ slice_index blocks h
  pub led : (d : ℕ) → d < length G.nodes → none ≤ slice_index owners d → slice_index blocks d < none
      → (h : ℕ) × (h < length G.nodes) × (place ≤ place_in order h) × Reads G h d × (slice_index blocks h ≡ slice_index blocks d)

-- what drives a net comes to be of this block, if it is no node's gate and was of none or of a later one; `first` is the net of the first gate
abbrev pub led_driver : List ℕ → ℕ → ℕ → ℕ → ℕ → List ℕ → List ℕ
led_driver owners none first block net blocks =
    if nat_le first net && (nat_le none (slice_index owners (net - first)) && nat_lt block (slice_index blocks (net - first)))
    then slice_set blocks (net - first) block else blocks

-- what drives some nets
abbrev pub led_drivers : List ℕ → ℕ → ℕ → ℕ → List ℕ → List ℕ → List ℕ
led_drivers owners none first block [] blocks = blocks
led_drivers owners none first block (net ∷ reads) blocks = led_drivers owners none first block reads (led_driver owners none first block net blocks)

-- the gate that drives the net, if it is of no node and of another block than `block`, and comes before `least`; else `least`
abbrev pub other_driver : List ℕ → ℕ → ℕ → List ℕ → ℕ → ℕ → ℕ → ℕ
other_driver owners none first blocks block net least =
    if nat_le first net && (nat_le none (slice_index owners (net - first)) && (not (block == slice_index blocks (net - first)) && nat_lt (net - first) least))
    then net - first else least

-- the first of these of some nets, and `least`
abbrev pub other_drivers : List ℕ → ℕ → ℕ → List ℕ → ℕ → List ℕ → ℕ → ℕ
other_drivers owners none first blocks block [] least = least
other_drivers owners none first blocks block (net ∷ reads) least =
    other_drivers owners none first blocks block reads (other_driver owners none first blocks block net least)
