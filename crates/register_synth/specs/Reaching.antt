-- What reaches some nets of a circuit, through registers: as marks of nets.
use Rattle.std.specs.Prelude.{◌≡◌, ℕ, ◌<◌, ◌↔◌, Bool, List, length, Contains, IsTrue}
use Rattle.fault_secure.specs.Circuit.{Circuit, nets, bit}
use Rattle.register_laws.specs.RegisterStructure.{Reaches}

-- a net reaches some net of the list, at this step or a later one
pub record ReachesSome (C : Circuit) (net : ℕ) (roots : List ℕ) : Type 0 where
  pub root : ℕ
  pub is_root : Contains roots root
  pub reaches : Reaches C net root

-- a mark for each net: whether it reaches some net of the list
pub record MarksReaching (C : Circuit) (roots : List ℕ) (marks : List Bool) : Type 0 where
  pub sized : length marks ≡ nets C
  pub exact : (net : ℕ) → net < nets C → IsTrue (bit marks net) ↔ ReachesSome C net roots
