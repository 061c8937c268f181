-- The nets of a group of outputs, and groups of which no two outputs share a node.
use Rattle.std.specs.Prelude.{ℕ, ◌<◌, List, [], map, length, slice_index, slice_index_or}
use Rattle.fault_secure.specs.Circuit.{Circuit}
use Rattle.fault_secure.specs.Depends.{Depends}

-- the nets of the outputs at these places
abbrev pub outputs_at : Circuit → List ℕ → List ℕ
outputs_at C group = map (slice_index C.outputs) group

-- two nets depend on a common node
pub record HaveCommonNode (C : Circuit) (a b : ℕ) : Type 0 where
  pub node : ℕ
  pub first : Depends C node a
  pub second : Depends C node b

-- no two outputs of one group share a node
pub record GroupsApart (C : Circuit) (groups : List (List ℕ)) : Type 0 where
  pub apart : (group a b : ℕ) → a < b → b < length (slice_index_or groups group [])
      → HaveCommonNode C (slice_index (outputs_at C (slice_index_or groups group [])) a) (slice_index (outputs_at C (slice_index_or groups group [])) b) → ⊥
