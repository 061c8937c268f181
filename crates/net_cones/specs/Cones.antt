-- Cones: the nodes that some nets depend on, as marks and as places.
use Rattle.std.specs.Prelude.{◌≡◌, ℕ, suc, ◌<◌, ◌↔◌, Bool, true, false, List, [], ◌∷◌, length, slice_index, Contains, IsTrue}
use Rattle.fault_secure.specs.Circuit.{Circuit, bit}
use Rattle.fault_secure.specs.Depends.{Depends}

-- some net of the list depends on the node
pub record DependsOnSome (C : Circuit) (q : ℕ) (roots : List ℕ) : Type 0 where
  pub root : ℕ
  pub is_root : Contains roots root
  pub depends : Depends C q root

-- a mark for each node: whether some net of the list depends on it
pub record MarksCone (C : Circuit) (roots : List ℕ) (marks : List Bool) : Type 0 where
  pub sized : length marks ≡ length C.nodes
  pub exact : (q : ℕ) → q < length C.nodes → IsTrue (bit marks q) ↔ DependsOnSome C q roots

-- the places that are marked, the first mark standing for place `at`
abbrev pub marked_from : ℕ → List Bool → List ℕ
marked_from at [] = []
marked_from at (true ∷ marks) = at ∷ marked_from (suc at) marks
marked_from at (false ∷ marks) = marked_from (suc at) marks

-- the places that are marked, the first mark standing for place 0
abbrev pub marked : List Bool → List ℕ
marked marks = marked_from 0 marks

-- the cone of some nets: the rising list of the nodes that one of them depends on
pub record IsCone (C : Circuit) (roots places : List ℕ) : Type 0 where
  pub rising : (i k : ℕ) → i < k → k < length places → slice_index places i < slice_index places k
  pub within : (k : ℕ) → k < length places → slice_index places k < length C.nodes
  pub sound : (k : ℕ) → k < length places → (net : ℕ) × Contains roots net × Depends C (slice_index places k) net
  pub whole : (q net : ℕ) → Contains roots net → Depends C q net → Contains places q
