-- Rows of a state table that conflict: they overlap and, completed, differ.
use Rattle.std.specs.Prelude.{ℕ, Bool, not, ◌&&◌, ◌==◌, List, [], ◌∷◌, ◌++◌, length, position, Option, None, Some}
use Rattle.fault_secure.specs.FaultSecure.{equal_bits}
use Rattle.fault_secure.specs.Logic.{Transition}
use Rattle.tsc_net.specs.Overlap.{overlap}
use Rattle.kiss_read.specs.declared.conflicts.Clash.{Clash}

-- both rows answer at some state and input, and their next states or outputs differ
abbrev pub conflict : Transition → Transition → Bool
conflict later earlier = overlap later earlier && not (later.next == earlier.next && equal_bits later.outputs earlier.outputs)

-- the row at a place conflicts with that earlier one, or else there is a later conflict
abbrev pub clash_or : Option ℕ → ℕ → Option Clash → Option Clash
clash_or None place later = later
clash_or (Some earlier) place later = Some (record { earlier = earlier; later = place })

-- the first row that conflicts with an earlier one, and the first with which it does, of rows that stand after these
abbrev pub first_clash_behind : List Transition → List Transition → Option Clash
first_clash_behind before [] = None
first_clash_behind before (row ∷ rows) =
    clash_or (position (conflict row) before) (length before) (first_clash_behind (before ++ row ∷ []) rows)

-- the first row that conflicts with an earlier one, and the first with which it does
abbrev pub first_clash : List Transition → Option Clash
first_clash rows = first_clash_behind [] rows
