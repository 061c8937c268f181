-- Places from which on nets aren't needed: one number for each net.
use Rattle.std.specs.Prelude.{◌≡◌, ℕ, ◌<◌, ◌≤◌, nat_lt, List, length, take, drop, slice_index}
use Rattle.std.specs.List.{list_any}
use Rattle.fault_secure.specs.Circuit.{Circuit, nets}
use Rattle.lane_rows.specs.Alive.{reads_net, is_needed}

-- among the first nodes of the order, up to `many` of them, a net is read at a place or after it exactly where the place is below the net's number
abbrev pub AreReadUntil : Circuit → List ℕ → ℕ → List ℕ → Type 0
AreReadUntil C order many ends =
    (place net : ℕ) → net < nets C → place ≤ many → nat_lt place (slice_index ends net) ≡ list_any (reads_net C net) (drop place (take many order))

-- a net is needed from a place on exactly where the place is below the net's number
abbrev pub AreNeededUntil : Circuit → List ℕ → List ℕ → List ℕ → Type 0
AreNeededUntil C order watched ends =
    (place net : ℕ) → net < nets C → place ≤ length order → nat_lt place (slice_index ends net) ≡ is_needed C order watched place net
