-- What the steps of building a netlist answer.
use Rattle.std.specs.Prelude.{◌≡◌, ℕ, ◌+◌, ◌<◌, ◌^◌, false, List, [], map, length, Some, None, All}
use Rattle.fault_secure.specs.Circuit.{NodeOf, nets}
use Rattle.tsc_net.specs.Named.{Named, NamedLatch, NamedNode}
use Rattle.tsc_net.specs.NetlistOf.{NetlistOf, drivers}
use Rattle.fault_secure.specs.Closed.{IsClosed}
use Rattle.tsc_net.specs.Order.{fan_in, fan_ins, has_whole_order, ring}
use Rattle.tsc_net.specs.Names.{has_text, text_at, IsNumbering}
use Rattle.tsc_net.specs.NetFault.{first_repeat, first_missing, joined, reads_of, no_outputs}
use Rattle.tsc_net.specs.declared.net_error.NetError.{NetError}
use Rattle.tsc_net.specs.declared.net_error.NetError.TheVariants.{Twice, Undriven, NoOutputs, Cycle, Memory}

-- what the latches read, and what the nodes read, pin by pin
abbrev pub latch_reads : List NamedLatch → List (List ℕ)
latch_reads latches = map (λ l. l.reads) latches

abbrev pub node_reads : List NamedNode → List (List ℕ)
node_reads nodes = joined (map (λ n. n.reads) nodes)

-- refused since nothing drives the text, or for want of memory
abbrev pub IsMissing : List (List ℕ) → List ℕ → NetError → Type 0
IsMissing driven text (Twice net) = ⊥
IsMissing driven text (Undriven net) = (net ≡ text) × (has_text driven text ≡ false)
IsMissing driven text NoOutputs = ⊥
IsMissing driven text (Cycle nets) = ⊥
IsMissing driven text (Memory error) = Unit {0}

-- refused by the first text that stands twice, or for want of memory
abbrev pub IsTwice : List (List ℕ) → NetError → Type 0
IsTwice texts (Twice net) = first_repeat texts ≡ Some net
IsTwice texts (Undriven net) = ⊥
IsTwice texts NoOutputs = ⊥
IsTwice texts (Cycle nets) = ⊥
IsTwice texts (Memory error) = Unit {0}

-- refused by the first text that nothing drives, or for want of memory
abbrev pub IsUndriven : List (List ℕ) → List (List ℕ) → NetError → Type 0
IsUndriven driven texts (Twice net) = ⊥
IsUndriven driven texts (Undriven net) = first_missing driven texts ≡ Some net
IsUndriven driven texts NoOutputs = ⊥
IsUndriven driven texts (Cycle nets) = ⊥
IsUndriven driven texts (Memory error) = Unit {0}

-- nothing of the netlist is driven or shown twice, all that is read is driven, there is an output, each cover has a pin a
-- name that its node reads, and numbers suffice
pub record IsDriven (N : Named) : Type 0 where
  pub once : first_repeat (drivers N) ≡ None
  pub shown_once : first_repeat N.outputs ≡ None
  pub driven : first_missing (drivers N) (reads_of N) ≡ None
  pub some_output : no_outputs N.outputs ≡ None
  pub pins : All (λ n. length n.reads ≡ n.cover.width) N.nodes
  pub few : length (drivers N) < 2 ^ 32

-- a netlist is checked but for rings
pub record IsClosedNetlist (net : NetlistOf) : Type 0 where
  pub closed : IsClosed net.circuit
  pub sized : length net.names ≡ nets net.circuit
  pub numbering : IsNumbering net.names
  pub few : nets net.circuit < 2 ^ 32

-- the fan-in of each node, of which the first drives the net `first`
abbrev pub fans_from : ℕ → List NodeOf → List (List ℕ)
fans_from first nodes = map (λ n. fan_in first n.reads) nodes

-- the ring of these names, or want of memory
abbrev pub IsCycle : List (List ℕ) → NetError → Type 0
IsCycle names (Twice text) = ⊥
IsCycle names (Undriven text) = ⊥
IsCycle names NoOutputs = ⊥
IsCycle names (Cycle texts) = texts ≡ names
IsCycle names (Memory error) = Unit {0}

-- refused since there is a ring, by the names of its nets, or for want of memory
abbrev pub IsRingOf : List (List ℕ) → List (List ℕ) → ℕ → NetError → Type 0
IsRingOf fans names first (Twice text) = ⊥
IsRingOf fans names first (Undriven text) = ⊥
IsRingOf fans names first NoOutputs = ⊥
IsRingOf fans names first (Cycle texts) = (has_whole_order fans ≡ false) × (texts ≡ map (λ j. text_at names (first + j)) (ring fans))
IsRingOf fans names first (Memory error) = Unit {0}

-- the same of a netlist
abbrev pub IsRing : NetlistOf → NetError → Type 0
IsRing net error = IsRingOf (fan_ins net.circuit) net.names (net.circuit.inputs + length net.circuit.latches) error

-- refused by the first output that nothing drives, since there is none, or for want of memory
abbrev pub IsUndrivenOrNone : List (List ℕ) → List (List ℕ) → NetError → Type 0
IsUndrivenOrNone driven texts (Twice net) = ⊥
IsUndrivenOrNone driven texts (Undriven net) = first_missing driven texts ≡ Some net
IsUndrivenOrNone driven texts NoOutputs = texts ≡ []
IsUndrivenOrNone driven texts (Cycle nets) = ⊥
IsUndrivenOrNone driven texts (Memory error) = Unit {0}

-- refused by the first name that nothing drives, or since all are driven and there is no output, or for want of memory
abbrev pub IsUnread : Named → NetError → Type 0
IsUnread N (Twice net) = ⊥
IsUnread N (Undriven net) = first_missing (drivers N) (reads_of N) ≡ Some net
IsUnread N NoOutputs = (first_missing (drivers N) (reads_of N) ≡ None) × (N.outputs ≡ [])
IsUnread N (Cycle nets) = ⊥
IsUnread N (Memory error) = Unit {0}
