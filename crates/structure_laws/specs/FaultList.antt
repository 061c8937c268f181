-- The fault list: it holds each listed fault, no other, and none twice.
use Rattle.std.specs.Prelude.{◌≡◌, ◌↔◌, ℕ, ◌<◌, length, slice_index_or, Contains, IsTrue}
use Rattle.fault_secure.specs.Circuit.{Circuit}
use Rattle.fault_secure.specs.StuckAt.{StuckAt, NoFault, is_listed}
use Rattle.fault_secure.specs.Listed.{listed_faults}

-- a fault stands in the list exactly where it is listed
abbrev pub HoldsTheListed : Type 0
HoldsTheListed = (N : Circuit) (f : StuckAt) → Contains (listed_faults N) f ↔ IsTrue (is_listed N f)

-- different places of the list have different faults
abbrev pub HoldsNoneTwice : Type 0
HoldsNoneTwice = (N : Circuit) (a b : ℕ) → a < b → b < length (listed_faults N)
    → slice_index_or (listed_faults N) a NoFault ≡ slice_index_or (listed_faults N) b NoFault → ⊥
