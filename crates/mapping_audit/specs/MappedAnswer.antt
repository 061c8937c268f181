-- What is answered of two netlists: whether the second reads as the first mapped cover by cover, and if not, the first reason.
use Rattle.std.specs.Prelude.{◌≡◌, ℕ, ◌^◌, ◌<◌, ◌≤◌, ◌⊎◌, List, length, slice_index}
use Rattle.fault_secure.specs.Circuit.{Circuit, node}
use Rattle.tsc_net.specs.NetlistOf.{NetlistOf, IsBuilt, named_of}
use Rattle.tsc_net.specs.Order.{fan_ins, evaluation_order}
use Rattle.mapping_reading.specs.ReadMapping.{IsReadMapping, some_block}
use Rattle.mapping_reading.specs.Pins.{at_of, AreWell, IsFirstOpen}
use Rattle.mapping_reading.specs.Blocks.{IsShared, IsFirstShared}
use Rattle.mapping_reading.specs.FoundBlocks.{AreFound}
use Rattle.mapping_reading.specs.MovedNets.{ReadsAsMapped}
use Rattle.mapping_reading.specs.NamedMapping.{moved_by_name, HasSameNames, IsFirstMissing, StaysSecure}
use Rattle.mapping_audit.specs.Wide.{IsWideCover, IsFirstWide}
use Rattle.mapping_audit.specs.Covers.{IsFirstFailing}
use Rattle.mapping_audit.specs.declared.reason.MappedReason.{MappedReason}
use Rattle.mapping_audit.specs.declared.reason.MappedReason.TheVariants.{Inputs, Latches, Outputs, Net, NoBlock, NoPin, NoCover}
use Rattle.mapping_audit.specs.declared.answer.MappedAnswer.{MappedAnswer}
use Rattle.mapping_audit.specs.declared.answer.MappedAnswer.TheVariants.{Yes, No, Wide}

-- ---- what holds where a reason is looked for

-- the blocks that are found of the gates: none without a node is read by gates of two, and where there are gates there are nodes
pub record AreBlocked (N G : Circuit) (moved blocks : List ℕ) : Type 0 where
  pub owners : List ℕ
  pub found : AreFound N G moved owners blocks
  pub some_node : 0 < length G.nodes → 0 < length N.nodes
  pub unshared : (d : ℕ) → IsShared G owners (length N.nodes) blocks d → ⊥

-- and each pin of theirs is at a net of its block or at a pin of its cover
pub record ArePinned (N G : Circuit) (moved blocks : List ℕ) : Type 0 where
  pub blocked : AreBlocked N G moved blocks
  pub well : AreWell N G (at_of G moved) (slice_index blocks)

-- ---- the reasons, each with its place

-- there are gates and no nodes, and this is the first gate
pub record IsOfNoNode (N G : Circuit) (gate : ℕ) : Type 0 where
  pub nodes : length N.nodes ≡ 0
  pub gates : 0 < length G.nodes
  pub first : gate ≡ 0

-- the first gate without a node of its own that gates of two blocks read
pub record LeadsTwice (N G : Circuit) (moved : List ℕ) (gate : ℕ) : Type 0 where
  pub owners : List ℕ
  pub blocks : List ℕ
  pub found : AreFound N G moved owners blocks
  pub some_node : 0 < length G.nodes → 0 < length N.nodes
  pub first : IsFirstShared G owners (length N.nodes) blocks gate

-- the first pin that is neither at a net of its gate's block nor at a pin of the block's cover
pub record IsNoPin (N G : Circuit) (moved : List ℕ) (gate pin : ℕ) : Type 0 where
  pub blocks : List ℕ
  pub blocked : AreBlocked N G moved blocks
  pub first : IsFirstOpen N G (at_of G moved) (slice_index blocks) gate pin

-- the first node with a cover that is too wide
pub record IsTooWide (N G : Circuit) (moved : List ℕ) (node : ℕ) : Type 0 where
  pub blocks : List ℕ
  pub pinned : ArePinned N G moved blocks
  pub first : IsFirstWide N G (at_of G moved) node

-- the first node whose block doesn't give its cover, the least value, and how many distinct pins the cover has
pub record IsNoCover (N G : Circuit) (moved : List ℕ) (node value width : ℕ) : Type 0 where
  pub blocks : List ℕ
  pub pinned : ArePinned N G moved blocks
  pub narrow : (j : ℕ) → j < length N.nodes → IsWideCover N G (at_of G moved) j → ⊥
  pub first : IsFirstFailing N G moved blocks node value width

-- what a yes says: the found blocks read as those of a mapping, and no cover was too wide
pub record IsReadSo (N G : Circuit) (moved : List ℕ) : Type 0 where
  pub blocks : List ℕ
  pub pinned : ArePinned N G moved blocks
  pub narrow : (j : ℕ) → j < length N.nodes → IsWideCover N G (at_of G moved) j → ⊥
  pub reads : IsReadMapping N G (at_of G moved) (slice_index blocks) (evaluation_order (fan_ins G))

-- ---- the answers

-- of two circuits, where nets went by the table: each reason says that the second doesn't read as the first mapped, by any blocks
abbrev pub IsMappingAnswer : Circuit → Circuit → List ℕ → MappedAnswer → Type 0
IsMappingAnswer N G moved Yes = IsReadSo N G moved
IsMappingAnswer N G moved (No Inputs) = ⊥
IsMappingAnswer N G moved (No Latches) = ⊥
IsMappingAnswer N G moved (No Outputs) = ⊥
IsMappingAnswer N G moved (No (Net node)) = ⊥
IsMappingAnswer N G moved (No (NoBlock gate)) = (IsOfNoNode N G gate ⊎ LeadsTwice N G moved gate) × (ReadsAsMapped N G moved → ⊥)
IsMappingAnswer N G moved (No (NoPin gate pin)) = IsNoPin N G moved gate pin × (ReadsAsMapped N G moved → ⊥)
IsMappingAnswer N G moved (No (NoCover node value width)) = IsNoCover N G moved node value width × (ReadsAsMapped N G moved → ⊥)
IsMappingAnswer N G moved (Wide node) = IsTooWide N G moved node

-- of the names of two netlists: the first list that differs, or the first node whose net no gate drives
abbrev pub IsNamesReason : NetlistOf → NetlistOf → MappedReason → Type 0
IsNamesReason N G Inputs = (named_of N).inputs ≡ (named_of G).inputs → ⊥
IsNamesReason N G Latches = ((named_of N).inputs ≡ (named_of G).inputs) × ((named_of N).latches ≡ (named_of G).latches → ⊥)
IsNamesReason N G Outputs =
    ((named_of N).inputs ≡ (named_of G).inputs) × ((named_of N).latches ≡ (named_of G).latches) × ((named_of N).outputs ≡ (named_of G).outputs → ⊥)
IsNamesReason N G (Net node) =
    ((named_of N).inputs ≡ (named_of G).inputs) × ((named_of N).latches ≡ (named_of G).latches) × ((named_of N).outputs ≡ (named_of G).outputs)
    × IsFirstMissing N G node
IsNamesReason N G (NoBlock gate) = ⊥
IsNamesReason N G (NoPin gate pin) = ⊥
IsNamesReason N G (NoCover node value width) = ⊥

-- of two netlists: why their names differ, or, where they don't, what is answered of the circuits with each net where its name is
abbrev pub IsMappedAnswer : NetlistOf → NetlistOf → MappedAnswer → Type 0
IsMappedAnswer N G (No Inputs) = IsNamesReason N G Inputs
IsMappedAnswer N G (No Latches) = IsNamesReason N G Latches
IsMappedAnswer N G (No Outputs) = IsNamesReason N G Outputs
IsMappedAnswer N G (No (Net node)) = IsNamesReason N G (Net node)
IsMappedAnswer N G (No (NoBlock gate)) = HasSameNames N G × IsMappingAnswer N.circuit G.circuit (moved_by_name N G) (No (NoBlock gate))
IsMappedAnswer N G (No (NoPin gate pin)) = HasSameNames N G × IsMappingAnswer N.circuit G.circuit (moved_by_name N G) (No (NoPin gate pin))
IsMappedAnswer N G (No (NoCover node value width)) = HasSameNames N G × IsMappingAnswer N.circuit G.circuit (moved_by_name N G) (No (NoCover node value width))
IsMappedAnswer N G Yes = HasSameNames N G × IsReadSo N.circuit G.circuit (moved_by_name N G)
IsMappedAnswer N G (Wide node) = HasSameNames N G × IsTooWide N.circuit G.circuit (moved_by_name N G) node

-- a yes says that the second netlist stays secure, by the blocks that were found
abbrev pub IsSecureWhereYes : NetlistOf → NetlistOf → MappedAnswer → Type 0
IsSecureWhereYes N G answer = answer ≡ Yes
    → (read : IsReadSo N.circuit G.circuit (moved_by_name N G)) → StaysSecure N G (some_block N.circuit (slice_index read.blocks))

-- what an answer names is there: nodes of the first netlist, gates of the second and their pins, and a value of at most 20 bits
abbrev pub IsShownIn : NetlistOf → NetlistOf → MappedAnswer → Type 0
IsShownIn N G Yes = Unit {0}
IsShownIn N G (No Inputs) = Unit {0}
IsShownIn N G (No Latches) = Unit {0}
IsShownIn N G (No Outputs) = Unit {0}
IsShownIn N G (No (Net place)) = place < length N.circuit.nodes
IsShownIn N G (No (NoBlock gate)) = gate < length G.circuit.nodes
IsShownIn N G (No (NoPin gate pin)) = (gate < length G.circuit.nodes) × (pin < length (node G.circuit gate).reads)
IsShownIn N G (No (NoCover place value width)) = (place < length N.circuit.nodes) × (width ≤ 20) × (value < 2 ^ width)
IsShownIn N G (Wide place) = place < length N.circuit.nodes

-- of two netlists there is at most one answer
abbrev pub OneAnswer : Type 0
OneAnswer = (N G : NetlistOf) (a b : MappedAnswer) → IsBuilt N → IsBuilt G → IsMappedAnswer N G a → IsMappedAnswer N G b → a ≡ b
