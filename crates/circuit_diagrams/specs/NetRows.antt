-- Rows of nets, while the nodes of a circuit are walked in their evaluation order.
use Rattle.std.specs.Prelude.{◌≡◌, ℕ, ◌<◌, ◌⊎◌, Bool, IsTrue, List, length, slice_index}
use Rattle.fault_secure.specs.Circuit.{Circuit, node, node_net, pin_net, bit}
use Rattle.diagrams.specs.Building.{DiagramState, input_bit, StandsFor}
use Rattle.circuit_diagrams.specs.Stated.{net_function}

-- the rows of the inputs
abbrev pub InputsStand : DiagramState → Circuit → List ℕ → Type 0
InputsStand state N rows = (i : ℕ) → i < N.inputs → StandsFor state (input_bit i) (slice_index rows i)

-- the rows of the nets at the pins of a node
abbrev pub ReadsStand : DiagramState → Circuit → (List Bool → List Bool) → ℕ → List ℕ → Type 0
ReadsStand state N v j rows = (pin : ℕ) → pin < length (node N j).reads → StandsFor state (net_function v (pin_net N j pin)) (slice_index rows (pin_net N j pin))

-- the rows of the inputs, and of the nets of the marked nodes among the first so many of an order
pub record NetsStand (state : DiagramState) (N : Circuit) (v : List Bool → List Bool) (marks : List Bool) (order : List ℕ) (n : ℕ) (rows : List ℕ) : Type 0 where
  pub inputs : (i : ℕ) → i < N.inputs → StandsFor state (net_function v i) (slice_index rows i)
  pub nodes : (k : ℕ) → k < n → IsTrue (bit marks (slice_index order k)) → StandsFor state (net_function v (node_net N (slice_index order k))) (slice_index rows (node_net N (slice_index order k)))

-- a marked node of an order reads inputs and the nets of marked nodes before it
pub record ReadsMarked (N : Circuit) (marks : List Bool) (order : List ℕ) : Type 0 where
  pub reads : (k pin : ℕ) → k < length order → IsTrue (bit marks (slice_index order k)) → pin < length (node N (slice_index order k)).reads
      → (pin_net N (slice_index order k) pin < N.inputs)
      ⊎ ((m : ℕ) × (m < k) × IsTrue (bit marks (slice_index order m)) × (pin_net N (slice_index order k) pin ≡ node_net N (slice_index order m)))
