-- The evaluation order of a netlist's nodes and the ring of nodes that have none. A node's fan-in is the list of the
-- places of the nodes that its pins read, from the left; nets that no node drives aren't in it.
use Rattle.std.specs.Prelude.{◌≡◌, ℕ, zero, suc, ◌+◌, ◌-◌, ◌<◌, ◌==◌, nat_lt, Bool, not, ◌&&◌, if◌then◌else◌, List, [], ◌∷◌, ◌++◌, length, map, drop, slice_index, slice_index_or, Option, Some, None, All, Contains}
use Rattle.std.specs.List.{list_any, list_all, position_or_len}
use Rattle.fault_secure.specs.Circuit.{Circuit}

-- the place stands in the list
abbrev pub has_place : List ℕ → ℕ → Bool
has_place places j = list_any (λ k. k == j) places

-- the places of the nodes among the nets that a node reads; `base` is the net of the first node
abbrev pub fan_in : ℕ → List ℕ → List ℕ
fan_in base [] = []
fan_in base (net ∷ reads) = if nat_lt net base then fan_in base reads else (net - base) ∷ fan_in base reads

-- the fan-in of each node
abbrev pub fan_ins : Circuit → List (List ℕ)
fan_ins N = map (λ n. fan_in (N.inputs + length N.latches) n.reads) N.nodes

-- the first node from place `at` on that isn't listed and reads only listed ones
abbrev pub next_from : List ℕ → ℕ → List (List ℕ) → Option ℕ
next_from listed at [] = None
next_from listed at (reads ∷ fans) =
    if not (has_place listed at) && list_all (has_place listed) reads then Some at else next_from listed (at + 1) fans

-- the next node of the order
abbrev pub next_node : List (List ℕ) → List ℕ → Option ℕ
next_node fans listed = next_from listed 0 fans

-- the nodes listed so far, and those that follow them, at most `most`
abbrev pub order_from : ℕ → List (List ℕ) → List ℕ → List ℕ
order_from zero fans listed = listed
order_from (suc most) fans listed =
    elim (next_node fans listed) [ None ↦ listed | Some j ↦ order_from most fans (listed ++ j ∷ []) ]

-- the evaluation order: each next node is the first in text order, not yet listed, that reads only listed nodes
abbrev pub evaluation_order : List (List ℕ) → List ℕ
evaluation_order fans = order_from (length fans) fans []

-- each node has its place in the order
abbrev pub has_whole_order : List (List ℕ) → Bool
has_whole_order fans = length (evaluation_order fans) == length fans

-- the first node from place `at` on that isn't listed
abbrev pub first_open : List ℕ → ℕ → List (List ℕ) → ℕ
first_open listed at [] = at
first_open listed at (reads ∷ fans) = if has_place listed at then first_open listed (at + 1) fans else at

-- the first node that is read and isn't listed
abbrev pub blocker : List ℕ → List ℕ → ℕ
blocker listed [] = 0
blocker listed (k ∷ reads) = if has_place listed k then blocker listed reads else k

-- the walk from a node to its blocker and so on, after the nodes of `path`, for at most `most` steps: from the first
-- coming on of the node that comes a second time
abbrev pub walk : ℕ → List (List ℕ) → List ℕ → List ℕ → ℕ → List ℕ
walk zero fans listed path at = path
walk (suc most) fans listed path at =
    if has_place path at then drop (position_or_len (λ k. k == at) path) path
    else walk most fans listed (path ++ at ∷ []) (blocker listed (slice_index_or fans at []))

-- the ring of the nodes that the order never lists: each reads the next and the last reads the first
abbrev pub ring : List (List ℕ) → List ℕ
ring fans = let listed = evaluation_order fans in walk (length fans + 1) fans listed [] (first_open listed 0 fans)

-- the place of a node in an order, and the order's length where it isn't there
abbrev pub place_in : List ℕ → ℕ → ℕ
place_in order j = position_or_len (λ k. k == j) order

-- the order lists each node once, after the nodes that it reads
pub record IsOrder (fans : List (List ℕ)) (order : List ℕ) : Type 0 where
  pub sized : length order ≡ length fans
  pub within : All (λ j. j < length fans) order
  pub each : (j : ℕ) → j < length fans → place_in order j < length order
  pub once : (place : ℕ) → place < length order → place_in order (slice_index order place) ≡ place
  pub after : (j k : ℕ) → j < length fans → Contains (slice_index_or fans j []) k → place_in order k < place_in order j

-- each node reads nodes alone
abbrev pub ReadsWithin : List (List ℕ) → Type 0
ReadsWithin fans = All (λ reads. All (λ k. k < length fans) reads) fans
