-- Where gates lead, whatever blocks they are said to be of: a gate that drives a node's net leads to that node, and any other gate
-- wherever its readers do.
use Rattle.std.specs.Prelude.{◌≡◌, ℕ, ◌<◌, ◌≤◌, List, length, slice_index}
use Rattle.fault_secure.specs.Circuit.{Circuit, node_net, nets}
use Rattle.tsc_net.specs.Order.{fan_ins, IsOrder}
use Rattle.mapping_reading.specs.ReadMapping.{first_net, IsReadMapping}
use Rattle.mapping_reading.specs.Blocks.{Reads, AreBlocks}

-- the net of no node went to that of the gate
abbrev pub IsNoNodes : Circuit → Circuit → (ℕ → ℕ) → ℕ → Type 0
IsNoNodes N G at g = (j : ℕ) → j < length N.nodes → at (node_net N j) ≡ node_net G g → ⊥

pub data Leads (N G : Circuit) (at : ℕ → ℕ) : ℕ → ℕ → Type 0 where
  Itself : (g j : ℕ) → j < length N.nodes → at (node_net N j) ≡ node_net G g → Leads N G at g j
  Through : (g h j : ℕ) → IsNoNodes N G at g → g < length G.nodes → h < length G.nodes → Reads G h g → Leads N G at h j → Leads N G at g j

-- `owners` gives for each gate the node whose net went to the gate's, and the number of nodes for any other gate
pub record AreOwners (N G : Circuit) (at : ℕ → ℕ) (owners : List ℕ) : Type 0 where
  pub sized : length owners ≡ length G.nodes
  pub few : (g : ℕ) → g < length G.nodes → slice_index owners g ≤ length N.nodes
  pub owns : (g : ℕ) → g < length G.nodes → slice_index owners g < length N.nodes → at (node_net N (slice_index owners g)) ≡ node_net G g
  pub free : (g : ℕ) → g < length G.nodes → length N.nodes ≤ slice_index owners g → IsNoNodes N G at g

-- however G is read as a mapping, a gate that leads to a node is of its block: so there is no way where one leads to two
abbrev pub OneBlock : Type 0
OneBlock = (N G : Circuit) (at block : ℕ → ℕ) (order : List ℕ) (g j : ℕ) → IsReadMapping N G at block order → Leads N G at g j → block g ≡ j

-- and a gate leads to the block that was found for it
abbrev pub BlocksLead : Type 0
BlocksLead = (N G : Circuit) (at : ℕ → ℕ) (order owners blocks : List ℕ) (g : ℕ) → IsOrder (fan_ins G) order → AreOwners N G at owners
    → AreBlocks G owners (length N.nodes) blocks → g < length G.nodes → slice_index blocks g < length N.nodes → Leads N G at g (slice_index blocks g)

-- one that leads to a node has a block: so those of no block are those that lead nowhere
abbrev pub LeadersHaveBlocks : Type 0
LeadersHaveBlocks = (N G : Circuit) (at : ℕ → ℕ) (owners blocks : List ℕ) (g j : ℕ) → AreOwners N G at owners
    → AreBlocks G owners (length N.nodes) blocks → g < length G.nodes → Leads N G at g j → slice_index blocks g < length N.nodes

-- the net of each node went to that of a gate, and those of two nodes to two gates
pub record GoApart (N G : Circuit) (at : ℕ → ℕ) : Type 0 where
  pub gates : (j : ℕ) → j < length N.nodes → (first_net G ≤ at (node_net N j)) × (at (node_net N j) < nets G)
  pub apart : (j k : ℕ) → j < length N.nodes → k < length N.nodes → at (node_net N j) ≡ at (node_net N k) → j ≡ k
