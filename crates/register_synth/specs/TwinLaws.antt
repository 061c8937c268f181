-- The laws of twins as they are made: their statements.
use Rattle.std.specs.Prelude.{ℕ, ◌<◌, List, length, slice_index, slice_index_or, []}
use Rattle.fault_secure.specs.Circuit.{Circuit}
use Rattle.fault_secure.specs.Closed.{IsClosed}
use Rattle.fault_secure.specs.Settle.{Acyclic}
use Rattle.fault_secure.specs.FailingCell.{IsCell}
use Rattle.register_laws.specs.RegisterStructure.{Reaches, at, DecidesGroups}
use Rattle.register_laws.specs.RegisterSecure.{IsRegisterSecure, IsRegisterFaultSecure}
use Rattle.register_laws.specs.Twin.{IsTwin}
use Rattle.register_synth.specs.Kept.{AreKept, kept_part}
use Rattle.register_synth.specs.RegisterGroups.{AreRegisterGroups}
use Rattle.register_synth.specs.TwinNet.{own_place, copied_place, twin_plan, BeginsAsTwin}

-- no cell reaches two outputs of one group, at whatever steps
abbrev pub AreGroupsApart : Circuit → List (List ℕ) → Type 0
AreGroupsApart C groups = (cell group a b : ℕ) → IsCell C cell → a < b → b < length (slice_index_or groups group [])
    → Reaches C cell (slice_index C.outputs (at groups group a)) → Reaches C cell (slice_index C.outputs (at groups group b)) → ⊥

-- the groups of a closed source without a ring are apart in the part that is kept of it too
abbrev pub GroupsApartInPart : Type 0
GroupsApartInPart = (S : Circuit) (registers covers : List ℕ) (groups : List (List ℕ)) → IsClosed S → Acyclic S → AreKept S registers covers
    → AreRegisterGroups S groups → AreGroupsApart (kept_part S registers covers) groups

-- a netlist that begins as the twin of what is kept of a closed source without a ring, over the source's groups, is a twin of this part:
-- where the netlist has no ring, and its checker decides
abbrev pub TwinsAreMade : Type 0
TwinsAreMade = (S N : Circuit) (registers covers : List ℕ) (groups : List (List ℕ)) (rail1 rail2 : ℕ) → IsClosed S → Acyclic S
    → AreKept S registers covers → AreRegisterGroups S groups → BeginsAsTwin (kept_part S registers covers) N groups rail1 rail2 → Acyclic N
    → DecidesGroups N (twin_plan (kept_part S registers covers) groups rail1 rail2)
    → IsTwin (kept_part S registers covers) N (twin_plan (kept_part S registers covers) groups rail1 rail2)
    (own_place (kept_part S registers covers)) (copied_place (kept_part S registers covers))

-- and so it is secure for the source, against any one failing cell and each listed fault
abbrev pub MadeTwinsAreSecure : Type 0
MadeTwinsAreSecure = (S N : Circuit) (registers covers : List ℕ) (groups : List (List ℕ)) (rail1 rail2 : ℕ) → IsClosed S → Acyclic S
    → AreKept S registers covers → AreRegisterGroups S groups → BeginsAsTwin (kept_part S registers covers) N groups rail1 rail2 → Acyclic N
    → DecidesGroups N (twin_plan (kept_part S registers covers) groups rail1 rail2)
    → IsRegisterSecure S N (twin_plan (kept_part S registers covers) groups rail1 rail2)
    × IsRegisterFaultSecure S N (twin_plan (kept_part S registers covers) groups rail1 rail2)
