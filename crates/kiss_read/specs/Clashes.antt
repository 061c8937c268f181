-- The search for the first conflict of the rows of a table.
use Rattle.std.specs.Prelude.{◌≡◌, ℕ, ◌+◌, ◌<◌, ◌≤◌, Bool, true, false, List, [], length, map, slice_index_or, min, Option, None, Some, All, Contains}
use Rattle.std.specs.Global.{Vec}
use Rattle.fault_secure.specs.Logic.{Transition}
use Rattle.tsc_net.specs.MachineView.{transitions_of, IsMachineRow}
use Rattle.tsc_bits.specs.Lists.{list_at}
use Rattle.kiss_read.specs.Conflict.{conflict}
use Rattle.kiss_read.specs.declared.table.Table.{Table}

-- a row that answers everywhere
abbrev pub no_transition : Transition
no_transition = record { input = []; from = None; next = 0; named = false; outputs = []; care = [] }

abbrev pub the_row : List Transition → ℕ → Transition
the_row rows place = slice_index_or rows place no_transition

-- the row at a place conflicts with that at an earlier one
abbrev pub conflict_at : List Transition → ℕ → ℕ → Bool
conflict_at rows later earlier = conflict (the_row rows later) (the_row rows earlier)

-- the rows of a table
abbrev pub rows_in : Table → List Transition
rows_in table = transitions_of table.heading.inputs table.heading.outputs table.rows

-- the rows are rows of their table
abbrev pub IsTable : Table → Type 0
IsTable table = All (IsMachineRow table.heading.inputs table.heading.outputs table.states table.heading.reset) table.rows

-- the least of some places that passes a test, if one does
abbrev pub IsLeastIn : (ℕ → Bool) → List ℕ → Option ℕ → Type 0
IsLeastIn test places None = All (λ place. test place ≡ false) places
IsLeastIn test places (Some least) =
    (test least ≡ true) × Contains places least × All (λ place. test place ≡ true → least ≤ place) places

-- the least number below a count that passes a test, if one does
abbrev pub IsLeastBelow : (ℕ → Bool) → ℕ → Option ℕ → Type 0
IsLeastBelow test count None = (place : ℕ) → place < count → test place ≡ false
IsLeastBelow test count (Some least) = (least < count) × (test least ≡ true) × ((place : ℕ) → place < least → test place ≡ false)

-- the lesser of two places, of which either may be missing
abbrev pub lesser : Option ℕ → Option ℕ → Option ℕ
lesser None b = b
lesser (Some first) None = Some first
lesser (Some first) (Some second) = Some (min first second)

-- where the place of a row is kept: in the list of the state at which it starts, or in that of the rows that start at every state
abbrev pub slot_of : ℕ → Option ℕ → ℕ
slot_of states None = states
slot_of states (Some state) = state

-- the lists as their items
abbrev pub lists_of : List (Vec ℕ) → List (List ℕ)
lists_of lists = map (λ list. list.items) lists

-- the places of the rows below a count are kept, each in its list
pub record AreGrouped (rows : List Transition) (states count : ℕ) (lists : List (List ℕ)) : Type 0 where
  pub sized : length lists ≡ states + 1
  pub kept : (place : ℕ) → place < count → Contains (list_at lists (slot_of states (the_row rows place).from)) place
  pub below : (slot : ℕ) → All (λ place. place < count) (list_at lists slot)
