-- Which outputs share a cell, by marks of the cells that reach each of them.
use Rattle.std.specs.Prelude.{◌≡◌, ℕ, ◌+◌, ◌<◌, ◌↔◌, Bool, List, length, slice_index, IsTrue}
use Rattle.fault_secure.specs.Circuit.{Circuit, nets, bit}
use Rattle.parity_code.specs.FirstFit.{marks_of}
use Rattle.register_laws.specs.RegisterStructure.{Reaches}

-- a mark for each cell: whether it reaches the net
pub record MarksCells (C : Circuit) (root : ℕ) (marks : List Bool) : Type 0 where
  pub sized : C.inputs + length marks ≡ nets C
  pub exact : (k : ℕ) → k < length marks → IsTrue (bit marks k) ↔ Reaches C (C.inputs + k) root

-- such marks for each of the first outputs, so many of them
pub record AreMarks (C : Circuit) (outputs : ℕ) (cells : List (List Bool)) : Type 0 where
  pub sized : length cells ≡ outputs
  pub each : (o : ℕ) → o < outputs → MarksCells C (slice_index C.outputs o) (marks_of cells o)
