-- Of which block each gate is: that of its own node, or the one to which its readers lead.
use Rattle.std.specs.Prelude.{◌≡◌, ℕ, ◌<◌, ◌≤◌, ◌↔◌, List, length, slice_index}
use Rattle.fault_secure.specs.Circuit.{Circuit, node, node_net, pin_net}

-- gate h reads the net that gate d drives
abbrev pub Reads : Circuit → ℕ → ℕ → Type 0
Reads G h d = (pin : ℕ) × (pin < length (node G h).reads) × (pin_net G h pin ≡ node_net G d)

-- `owners` gives the node whose net a gate drives, and `none`, which is past all nodes, for any other gate. A gate of a node is of its
-- block; any other is of the least block that its readers are of, those of no block left out, and of none where there is none
pub record AreBlocks (G : Circuit) (owners : List ℕ) (none : ℕ) (blocks : List ℕ) : Type 0 where
  pub sized : length blocks ≡ length G.nodes
  pub few : (g : ℕ) → g < length G.nodes → slice_index blocks g ≤ none
  pub owned : (g : ℕ) → g < length G.nodes → slice_index owners g < none → slice_index blocks g ≡ slice_index owners g
  pub least : (d h : ℕ) → d < length G.nodes → h < length G.nodes → none ≤ slice_index owners d → Reads G h d
      → slice_index blocks d ≤ slice_index blocks h
  pub led : (d : ℕ) → d < length G.nodes → none ≤ slice_index owners d → slice_index blocks d < none
      → (h : ℕ) × (h < length G.nodes) × Reads G h d × (slice_index blocks h ≡ slice_index blocks d)

-- a gate of no node that a gate of some block reads, while it is of another one: it leads to several blocks
abbrev pub IsShared : Circuit → List ℕ → ℕ → List ℕ → ℕ → Type 0
IsShared G owners none blocks d = (none ≤ slice_index owners d)
    × ((h : ℕ) × (h < length G.nodes) × Reads G h d × (slice_index blocks h < none) × (slice_index blocks h ≡ slice_index blocks d → ⊥))

-- the first such gate
pub record IsFirstShared (G : Circuit) (owners : List ℕ) (none : ℕ) (blocks : List ℕ) (d : ℕ) : Type 0 where
  pub inside : d < length G.nodes
  pub shared : IsShared G owners none blocks d
  pub first : (e : ℕ) → e < d → IsShared G owners none blocks e → ⊥

-- two gates of different blocks read the net of the gate
pub record HasTwoBlocks (G : Circuit) (none : ℕ) (blocks : List ℕ) (d : ℕ) : Type 0 where
  pub first : ℕ
  pub second : ℕ
  pub inside : (first < length G.nodes) × (second < length G.nodes)
  pub reads : Reads G first d × Reads G second d
  pub some : (slice_index blocks first < none) × (slice_index blocks second < none)
  pub differ : slice_index blocks first ≡ slice_index blocks second → ⊥

-- which is to be shared, of a gate of no node
abbrev pub SharedHasTwoBlocks : Type 0
SharedHasTwoBlocks = (G : Circuit) (owners : List ℕ) (none : ℕ) (blocks : List ℕ) (d : ℕ) → AreBlocks G owners none blocks → d < length G.nodes
    → none ≤ slice_index owners d → IsShared G owners none blocks d ↔ HasTwoBlocks G none blocks d
