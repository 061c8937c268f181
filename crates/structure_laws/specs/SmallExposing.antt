-- Exposing points in two small netlists, which guard the definitions: one is self-testing, the other has a fault that nothing shows.
use Rattle.std.specs.Prelude.{true, false, Bool, List, [], ◌∷◌}
use Rattle.tsc_cover.specs.Cover.{CoverTable}
use Rattle.tsc_cover.specs.Cover.Literal.{Free, Wants}
use Rattle.tsc_cover.specs.Gates.{not_cover, buf_cover}
use Rattle.fault_secure.specs.Circuit.{Circuit, NodeOf}
use Rattle.fault_secure.specs.StuckAt.{Pin}
use Rattle.structure_laws.specs.SmallNetlist.{small_netlist, small_plan}
use Rattle.fault_secure.specs.Exposing.{IsExposed, IsFirstExposing, IsSelfTesting}

-- in the small netlist the pin at which y reads a, held at 1, is first exposed at the input 01
abbrev pub PinIsFirstExposed : Type 0
PinIsFirstExposed = IsFirstExposing small_netlist small_plan (Pin 2 0 true) 0 (false ∷ true ∷ [])

abbrev pub SmallIsSelfTesting : Type 0
SmallIsSelfTesting = IsSelfTesting small_netlist small_plan

-- `1- 1`: the first pin is handed on, and the second isn't looked at
abbrev pub idle_cover : CoverTable
idle_cover = record { width = 2; on = true; rows = (Wants true ∷ Free ∷ []) ∷ [] }

-- the small netlist with this cover for y and its copy
abbrev pub idle_nodes : List NodeOf
idle_nodes =
    record { reads = 0 ∷ 1 ∷ []; cover = idle_cover }
    ∷ record { reads = 0 ∷ 1 ∷ []; cover = idle_cover }
    ∷ record { reads = 3 ∷ []; cover = not_cover }
    ∷ record { reads = 2 ∷ []; cover = buf_cover }
    ∷ record { reads = 4 ∷ []; cover = buf_cover }
    ∷ []

abbrev pub idle_netlist : Circuit
idle_netlist = record { inputs = 2; latches = []; nodes = idle_nodes; outputs = 2 ∷ 5 ∷ 6 ∷ [] }

-- there no point exposes a fault of the pin at which y reads b
abbrev pub IdlePinIsExposedNowhere : Type 0
IdlePinIsExposedNowhere = (held : Bool) → IsExposed idle_netlist small_plan (Pin 2 1 held) → ⊥
