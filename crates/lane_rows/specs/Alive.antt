-- Which nets are alive along the evaluation order, and how many of them at once. A place is one of the order: the node
-- that stands there is evaluated, and drives its net, when those at the places before it have been.
use Rattle.std.specs.Prelude.{ℕ, ◌+◌, ◌==◌, ◌&&◌, ◌||◌, nat_le, max, Bool, List, length, map, drop, fold, count_by, slice_index}
use Rattle.std.specs.List.{list_any, range_with_len}
use Rattle.fault_secure.specs.Circuit.{Circuit, node, node_net}
use Rattle.tsc_net.specs.Order.{fan_ins, evaluation_order, has_place, place_in}

-- how many inputs and latch outputs there are: their nets are those below it
abbrev pub source_count : Circuit → ℕ
source_count C = C.inputs + length C.latches

-- the net of the node at a place of the order
abbrev pub net_at : Circuit → List ℕ → ℕ → ℕ
net_at C order place = node_net C (slice_index order place)

-- the node reads the net
abbrev pub reads_net : Circuit → ℕ → ℕ → Bool
reads_net C net j = has_place (node C j).reads net

-- the net is needed from a place on: it is watched, or a node at that place or at a later one reads it
abbrev pub is_needed : Circuit → List ℕ → List ℕ → ℕ → ℕ → Bool
is_needed C order watched place net = has_place watched net || list_any (reads_net C net) (drop place order)

-- the net of node j is alive at a place: the node stands there, or it stands before and its net is needed from there on
abbrev pub is_alive : Circuit → List ℕ → List ℕ → ℕ → ℕ → Bool
is_alive C order watched place j =
    nat_le (place_in order j) place && (place_in order j == place || is_needed C order watched place (node_net C j))

-- how many nets of nodes are alive at a place
abbrev pub alive_count : Circuit → List ℕ → List ℕ → ℕ → ℕ
alive_count C order watched place = count_by (is_alive C order watched place) (range_with_len 0 (length C.nodes))

-- how many inputs and latch outputs are watched
abbrev pub watched_sources : Circuit → List ℕ → ℕ
watched_sources C watched = count_by (has_place watched) (range_with_len 0 (source_count C))

-- the greatest of some numbers, 0 where there are none
abbrev pub greatest : List ℕ → ℕ
greatest numbers = fold max 0 numbers

-- the greatest number of nets alive at one of the first places of an order
abbrev pub most_alive : Circuit → List ℕ → List ℕ → ℕ → ℕ
most_alive C order watched places = greatest (map (alive_count C order watched) (range_with_len 0 places))

-- the peak: the greatest number of nets alive at one place of the evaluation order, plus the watched inputs and latch outputs
abbrev pub peak : Circuit → List ℕ → ℕ
peak C watched =
    let order = evaluation_order (fan_ins C) in most_alive C order watched (length order) + watched_sources C watched
