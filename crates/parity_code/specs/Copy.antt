-- A copy of some nodes of one circuit in another, under a renaming of nets.
use Rattle.std.specs.Prelude.{◌≡◌, ℕ, ◌+◌, ◌<◌, ◌≤◌, ◌⊎◌, Bool, List, map, length, slice_index}
use Rattle.fault_secure.specs.Circuit.{Circuit, NodeOf, node, node_net, pin_net, bit}
use Rattle.fault_secure.specs.StuckAt.{NoFault}
use Rattle.fault_secure.specs.Settle.{node_value}
use Rattle.fault_secure.specs.Depends.{Depends}

-- a node with the nets at its pins renamed
abbrev pub renamed : (ℕ → ℕ) → NodeOf → NodeOf
renamed net n = record { reads = map net n.reads; cover = n.cover }

-- a net of C that a copy of these nodes has: an input, or the net of one of the nodes
abbrev pub IsCopied : Circuit → List ℕ → ℕ → Type 0
IsCopied C places n = (n < C.inputs) ⊎ ((k : ℕ) × (k < length places) × (n ≡ node_net C (slice_index places k)))

-- from place `base` on, N has a copy of the nodes of C at `places`; an input stands for itself, and `net` names the copies
pub record IsCopy (C N : Circuit) (places : List ℕ) (base : ℕ) (net : ℕ → ℕ) : Type 0 where
  pub latchless : (length C.latches ≡ 0) × (length N.latches ≡ 0)
  pub same_inputs : N.inputs ≡ C.inputs
  pub fits : base + length places ≤ length N.nodes
  pub within : (k : ℕ) → k < length places → slice_index places k < length C.nodes
  pub inputs : (i : ℕ) → i < C.inputs → net i ≡ i
  pub nets : (k : ℕ) → k < length places → net (node_net C (slice_index places k)) ≡ node_net N (base + k)
  pub nodes : (k : ℕ) → k < length places → node N (base + k) ≡ renamed net (node C (slice_index places k))
  pub closed : (k pin : ℕ) → k < length places → pin < length (node C (slice_index places k)).reads
      → IsCopied C places (pin_net C (slice_index places k) pin)

-- the copies settle in u, without a fault, over the inputs of v
pub record CopySettles (C N : Circuit) (places : List ℕ) (base : ℕ) (v u : List Bool) : Type 0 where
  pub inputs : (i : ℕ) → i < C.inputs → bit u i ≡ bit v i
  pub nodes : (k : ℕ) → k < length places → bit u (node_net N (base + k)) ≡ node_value N NoFault u (base + k)

-- the node is a copy, of a node that the source's net depends on
pub record IsCopyOfCone (C : Circuit) (places : List ℕ) (base q n : ℕ) : Type 0 where
  pub k : ℕ
  pub within : k < length places
  pub is : q ≡ base + k
  pub depends : Depends C (slice_index places k) n
