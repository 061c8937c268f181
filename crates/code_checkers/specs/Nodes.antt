-- The node of each gate: its cover, and the places that its pins read.
use Rattle.std.specs.Prelude.{◌≡◌, ℕ, ◌<◌, ◌≤◌, Bool, List, [], ◌∷◌, map, length, slice_index, slice_index_or}
use Rattle.tsc_cover.specs.Cover.{CoverTable, zero_cover}
use Rattle.tsc_cover.specs.Gates.{buf_cover, not_cover, and_cover, or_cover, xor_cover}
use Rattle.fault_secure.specs.Circuit.{Circuit, node, node_net, gate as node_over}
use Rattle.fault_secure.specs.CodePlan.{CodePlan, monitored}
use Rattle.code_checkers.specs.declared.gate.CheckGate.{CheckGate}
use Rattle.code_checkers.specs.declared.gate.CheckGate.TheVariants as gate
use Rattle.code_checkers.specs.Signal.{Signal, value}
use Rattle.code_checkers.specs.Gates.{signal_at}

-- the cover of a gate; a place of the word has no node, and no pin
abbrev pub cover_of : CheckGate → CoverTable
cover_of (gate.Word place) = zero_cover
cover_of (gate.Buf a) = buf_cover
cover_of (gate.Not a) = not_cover
cover_of (gate.And a b) = and_cover
cover_of (gate.Or a b) = or_cover
cover_of (gate.Xor a b) = xor_cover

-- the places that a gate reads, one for each pin
abbrev pub reads_of : CheckGate → List ℕ
reads_of (gate.Word place) = []
reads_of (gate.Buf a) = a ∷ []
reads_of (gate.Not a) = a ∷ []
reads_of (gate.And a b) = a ∷ (b ∷ [])
reads_of (gate.Or a b) = a ∷ (b ∷ [])
reads_of (gate.Xor a b) = a ∷ (b ∷ [])

-- the values of the signals at the places that a gate reads
abbrev pub pin_values : List Bool → List Signal → CheckGate → List Bool
pin_values w signals g = map (λ place. value w (signal_at signals place)) (reads_of g)

-- a node from place lo on drives the net, and it is the gate with this cover over these nets
pub record IsNodeFrom (N : Circuit) (lo net : ℕ) (cover : CoverTable) (reads : List ℕ) : Type 0 where
  pub driver : ℕ
  pub is_node : driver < length N.nodes
  pub behind : lo ≤ driver
  pub drives : net ≡ node_net N driver
  pub is_gate : node N driver ≡ node_over cover reads

-- the gate at a place stands in a netlist: its net is that of its place of the word, or a node of its cover from place lo
-- on drives it over the nets of the places that it reads
abbrev pub Stands : Circuit → CodePlan → ℕ → (ℕ → ℕ) → ℕ → CheckGate → Type 0
Stands N P lo net place (gate.Word p) = (p < length (monitored N P)) × (net place ≡ slice_index (monitored N P) p)
Stands N P lo net place (gate.Buf a) = IsNodeFrom N lo (net place) buf_cover (net a ∷ [])
Stands N P lo net place (gate.Not a) = IsNodeFrom N lo (net place) not_cover (net a ∷ [])
Stands N P lo net place (gate.And a b) = IsNodeFrom N lo (net place) and_cover (net a ∷ (net b ∷ []))
Stands N P lo net place (gate.Or a b) = IsNodeFrom N lo (net place) or_cover (net a ∷ (net b ∷ []))
Stands N P lo net place (gate.Xor a b) = IsNodeFrom N lo (net place) xor_cover (net a ∷ (net b ∷ []))

-- each gate stands in the netlist
abbrev pub AllStand : Circuit → CodePlan → ℕ → (ℕ → ℕ) → List CheckGate → Type 0
AllStand N P lo net gates = (place : ℕ) → place < length gates → Stands N P lo net place (slice_index_or gates place (gate.Word 0))
