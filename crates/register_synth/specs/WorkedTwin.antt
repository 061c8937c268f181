-- A source of two registers and three covers, worked out: what is kept, the groups, and the twin's registers, covers and checks.
use Rattle.std.specs.Prelude.{true, false, ℕ, List, [], ◌∷◌}
use Rattle.tsc_cover.specs.Gates.{and_cover, or_cover, not_cover}
use Rattle.fault_secure.specs.Circuit.{Circuit, LatchOf, NodeOf, gate}

-- the nets: 0 the clock, 1 and 2 the inputs a and b, 3 and 4 the registers p and q, 5 what p reads, and the outputs 6 and 7. q reads p and is 1
-- first
abbrev pub worked_source : Circuit
worked_source = record {
  inputs = 3;
  latches = record { reads = 5; init = false } ∷ record { reads = 3; init = true } ∷ [];
  nodes = gate and_cover (1 ∷ 4 ∷ []) ∷ gate or_cover (3 ∷ 2 ∷ []) ∷ gate not_cover (4 ∷ []) ∷ [];
  outputs = 6 ∷ 7 ∷ [];
}

-- all is kept
abbrev pub worked_registers : List ℕ
worked_registers = 0 ∷ 1 ∷ []

abbrev pub worked_covers : List ℕ
worked_covers = 0 ∷ 1 ∷ 2 ∷ []

-- what p reads reaches both outputs, the second through both registers: so each output is a group of its own
abbrev pub worked_groups : List (List ℕ)
worked_groups = (0 ∷ []) ∷ (1 ∷ []) ∷ []

-- the nets: 3 and 4 the own registers, 5 and 6 their copies, 7 to 9 the own covers, 10 to 12 their copies, 13 and 14 the checks
abbrev pub worked_latches : List LatchOf
worked_latches = record { reads = 7; init = false } ∷ record { reads = 3; init = true } ∷ record { reads = 10; init = false } ∷ record { reads = 5; init = true } ∷ []

abbrev pub worked_nodes : List NodeOf
worked_nodes =
    gate and_cover (1 ∷ 4 ∷ []) ∷ gate or_cover (3 ∷ 2 ∷ []) ∷ gate not_cover (4 ∷ [])
    ∷ gate and_cover (1 ∷ 6 ∷ []) ∷ gate or_cover (5 ∷ 2 ∷ []) ∷ gate not_cover (6 ∷ [])
    ∷ gate not_cover (11 ∷ []) ∷ gate not_cover (12 ∷ []) ∷ []
