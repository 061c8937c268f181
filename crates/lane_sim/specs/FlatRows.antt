-- Rows of terms in flat lists, read as lists of terms.
use Rattle.std.specs.Prelude.{◌≡◌, ℕ, ◌<◌, List, length, slice_index_or}
use Rattle.lane_sim.specs.Spans.{piece, pieces, AreSpans}
use Rattle.lane_sim.specs.declared.gate.ListRange.{ListRange}
use Rattle.lane_sim.specs.declared.gate.Term.{Term}
use Rattle.lane_sim.specs.declared.flat_rows.FlatRows.{FlatRows}

-- all rows, each a list of terms
abbrev pub all_rows : FlatRows → List (List Term)
all_rows flat = pieces flat.terms.items flat.rows.items

-- a span without members
abbrev pub no_span : ListRange
no_span = record { start = 0; end = 0 }

-- the rows of the gate at a place
abbrev pub rows_in : FlatRows → ℕ → List (List Term)
rows_in flat place = piece (all_rows flat) (slice_index_or flat.gates.items place no_span)

-- the rows' spans lie in the list of the terms, and the gates' in that of the rows
pub record AreInside (flat : FlatRows) : Type 0 where
  pub rows : AreSpans (length flat.terms.items) flat.rows.items
  pub gates : AreSpans (length flat.rows.items) flat.gates.items

-- the place is that of one of its gates
abbrev pub IsPlaceOf : FlatRows → ℕ → Type 0
IsPlaceOf flat place = place < length flat.gates.items

-- the gate at a place is still there, with its rows
abbrev pub KeepsRows : FlatRows → FlatRows → Type 0
KeepsRows old new = (place : ℕ) → IsPlaceOf old place → IsPlaceOf new place × (rows_in new place ≡ rows_in old place)
