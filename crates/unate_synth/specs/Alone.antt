-- Which nodes stand alone, so that equal gates are one gate.
use Rattle.std.specs.Prelude.{◌≡◌, ℕ, ◌<◌, List, Contains}
use Rattle.fault_secure.specs.Circuit.{Circuit, node, node_net}

-- node q drives none of the word, and so it equals no node before it
abbrev pub IsAlone : Circuit → List ℕ → ℕ → Type 0
IsAlone N word q = (Contains word (node_net N q) → ⊥) → (p : ℕ) → p < q → node N p ≡ node N q → ⊥

-- so it is of each node before this place
abbrev pub AreAlone : Circuit → List ℕ → ℕ → Type 0
AreAlone N word hi = (q : ℕ) → q < hi → IsAlone N word q
