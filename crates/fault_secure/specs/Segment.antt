-- Circuits that are built stretch by stretch: each stretch of nodes reads what stands before it, and itself without a ring.
use Rattle.std.specs.Prelude.{ℕ, ◌<◌, ◌≤◌, ◌⊎◌, length}
use Rattle.fault_secure.specs.Circuit.{Circuit, node, node_net, pin_net}

-- the nodes below place k read only nets below theirs all, and have ranks, below a bound
pub record SoundTo (N : Circuit) (k : ℕ) : Type 0 where
  pub rank : ℕ → ℕ
  pub bound : ℕ
  pub fits : k ≤ length N.nodes
  pub bounded : (net : ℕ) → net < node_net N k → rank net < bound
  pub before : (j pin : ℕ) → j < k → pin < length (node N j).reads → pin_net N j pin < node_net N k
  pub above : (j pin : ℕ) → j < k → pin < length (node N j).reads → rank (pin_net N j pin) < rank (node_net N j)

-- a net of the stretch from place k up to place h
abbrev pub IsNetBetween : Circuit → ℕ → ℕ → ℕ → Type 0
IsNetBetween N k h net = (node_net N k ≤ net) × (net < node_net N h)

-- each node from place k up to place h reads nets before the stretch, or nets of the stretch of lower rank
pub record Segment (N : Circuit) (k h : ℕ) : Type 0 where
  pub rank : ℕ → ℕ
  pub bound : ℕ
  pub ordered : k ≤ h
  pub fits : h ≤ length N.nodes
  pub bounded : (net : ℕ) → IsNetBetween N k h net → rank net < bound
  pub reads : (j pin : ℕ) → k ≤ j → j < h → pin < length (node N j).reads
      → (pin_net N j pin < node_net N k) ⊎ (IsNetBetween N k h (pin_net N j pin) × (rank (pin_net N j pin) < rank (node_net N j)))

-- each node from place k up to place h reads nets that stand before its own
pub record IsAppended (N : Circuit) (k h : ℕ) : Type 0 where
  pub ordered : k ≤ h
  pub fits : h ≤ length N.nodes
  pub before : (j pin : ℕ) → k ≤ j → j < h → pin < length (node N j).reads → pin_net N j pin < node_net N j
