-- Where the numbers of variables end.
use Rattle.std.proofs.Common.{◌≡◌, ℕ, ◌+◌, ◌≤◌, Bool, true, false, cond, List, [], ◌∷◌, ◌++◌, ◌<◌, nat_eq, length, drop, slice_index_or, refl, ap, add-one, arith}
use Rattle.std.proofs.lemmas.List.{at_drop_more}
use Rattle.fault_secure.specs.Circuit.{Circuit, NodeOf, no_node}
use Rattle.question_text.specs.Nodes.{wide_of, first_numbers, end_from}
use Rattle.tsc_net.specs.declared.plan.Group.{Group}
use Rattle.question_text.specs.Failing.{cell_end, cells_end}
use Rattle.question_text.specs.Reasons.{groups_end, ones_from}
use Rattle.question_text.specs.Gates.{is_one}
use Rattle.question_text.specs.Whole.{right_first, failing_first, outputs_first, groups_first, rails_first}
use Rattle.tsc_net.specs.declared.ids.NetId.{NetId}
use Rattle.tsc_net.specs.PlanView.{net_numbers}

pub first_more : (n : ℕ) → first_numbers (n + 1) ≡ first_numbers n ++ n ∷ []
first_more n = rw add-one refl

pub end_least : (at : ℕ) (nodes : List NodeOf) → at ≤ end_from at nodes
end_least at [] = omega arith
end_least at (n ∷ nodes) = omega (arith, end_least (at + 1 + wide_of n) nodes)

pub cell_least : (j at rows : ℕ) → at + 4 + rows ≤ cell_end j at rows
cell_least j at rows = by (nat_eq j 0)
  where
    by : (b : Bool) → at + 4 + rows ≤ cond b (at + 4 + rows) (at + 5 + rows)
    by true = omega arith
    by false = omega arith

pub cells_least : (j at : ℕ) (nodes : List NodeOf) → at ≤ cells_end j at nodes
cells_least j at [] = omega arith
cells_least j at (n ∷ nodes) = omega (arith, cells_least (j + 1) (cell_end j at (wide_of n)) nodes, cell_least j at (wide_of n))

pub end_room : (at place : ℕ) (nodes : List NodeOf) → place < length nodes → at + 1 + wide_of (slice_index_or nodes place no_node) ≤ end_from at (drop place nodes)
end_room at place nodes inside =
    let e : end_from at (drop place nodes) ≡ end_from (at + 1 + wide_of (slice_index_or nodes place no_node)) (drop (place + 1) nodes) = at_drop_more (end_from at) nodes place no_node inside in
    omega (arith, e, end_least (at + 1 + wide_of (slice_index_or nodes place no_node)) (drop (place + 1) nodes))

pub cells_room : (j at place : ℕ) (nodes : List NodeOf) → place < length nodes → cell_end j at (wide_of (slice_index_or nodes place no_node)) ≤ cells_end j at (drop place nodes)
cells_room j at place nodes inside =
    let e : cells_end j at (drop place nodes) ≡ cells_end (j + 1) (cell_end j at (wide_of (slice_index_or nodes place no_node))) (drop (place + 1) nodes) = at_drop_more (cells_end j at) nodes place no_node inside in
    omega (arith, e, cells_least (j + 1) (cell_end j at (wide_of (slice_index_or nodes place no_node))) (drop (place + 1) nodes))

pub groups_least : (at : ℕ) (groups : List Group) → at ≤ groups_end at groups
groups_least at [] = omega arith
groups_least at (g ∷ groups) = omega (arith, groups_least (at + length g.places) groups)

-- the first of some groups ends before all of them
pub groups_room : (at place : ℕ) (groups : List Group) (g : Group) → place < length groups → g ≡ slice_index_or groups place g → at + length g.places ≤ groups_end at (drop place groups)
groups_room at place groups g inside is =
    let e : groups_end at (drop place groups) ≡ groups_end (at + length (slice_index_or groups place g).places) (drop (place + 1) groups) = at_drop_more (groups_end at) groups place g inside in
    let same = ap (λ (h : Group). length h.places) is in
    omega (arith, e, same, groups_least (at + length (slice_index_or groups place g).places) (drop (place + 1) groups))

-- one part of the variables after the other
pub firsts_rise : (C N : Circuit) (groups : List Group)
    → (right_first C N ≤ failing_first C N) × (failing_first C N ≤ outputs_first C N) × (groups_first C N ≤ rails_first C N groups)
firsts_rise C N groups = (
  end_least (right_first C N) N.nodes,
  cells_least 0 (failing_first C N) N.nodes,
  groups_least (groups_first C N) groups,
)

pub ones_next : (at i : ℕ) (nets : List NetId) (d : NetId) → i < length nets → ones_from at (net_numbers (drop i nets)) ≡ is_one at ∷ ones_from (at + 1) (net_numbers (drop (i + 1) nets))
ones_next at i nets d inside = at_drop_more (λ rest. ones_from at (net_numbers rest)) nets i d inside
