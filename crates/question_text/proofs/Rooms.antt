-- There is room for all variables.
use Rattle.std.proofs.Common.{◌≡◌, ℕ, zero, suc, ◌+◌, ◌<◌, ◌≤◌, ◌^◌, List, [], ◌∷◌, length, slice_index, slice_index_or, ap, ◌∙◌, arith}
use Rattle.fault_secure.specs.Circuit.{Circuit, NodeOf, no_node, node_net}
use Rattle.tsc_net.specs.declared.plan.Group.{Group}
use Rattle.question_text.specs.Nodes.{wide_of, numbers_from, end_from, HasRoom}
use Rattle.question_text.specs.Failing.{cell_end, cells_from, cells_end, cell_at, CellsHaveRoom}
use Rattle.question_text.specs.Whole.{right_first, failing_first, copy_numbers, rails_first}
use Rattle.question_text.proofs.Ends.{cells_least, cell_least, firsts_rise}
use Rattle.question_text.proofs.Standing.{numbers_room}
use Rattle.question_text.proofs.Spreads.{behind_first}

pub copy_room : (first : ℕ) (N : Circuit) → length N.latches ≡ 0 → end_from first N.nodes < 2 ^ 32 → HasRoom (copy_numbers first N) N
copy_room first N none few j inside =
    let e = ap (slice_index (copy_numbers first N)) (let e : node_net N j ≡ N.inputs + j = omega (arith, none) in e) ∙ behind_first N.inputs j (numbers_from first N.nodes) in
    omega (arith, e, numbers_room first j N.nodes inside)

-- the rows of a node's cell have room before the end of all cells
pub cell_room : (i at j : ℕ) (nodes : List NodeOf) → j < length nodes → (cell_at (cells_from i at nodes) j).rows + wide_of (slice_index_or nodes j no_node) ≤ cells_end i at nodes
cell_room i at j [] inside = absurd (omega arith)
cell_room i at zero (n ∷ nodes) inside = omega (arith, cells_least (i + 1) (cell_end i at (wide_of n)) nodes, cell_least i at (wide_of n))
cell_room i at (suc j) (n ∷ nodes) inside = cell_room (i + 1) (cell_end i at (wide_of n)) j nodes (omega arith)

pub cells_have_room : (first : ℕ) (N : Circuit) → cells_end 0 first N.nodes < 2 ^ 32 → CellsHaveRoom (cells_from 0 first N.nodes) N
cells_have_room first N few j inside = omega (arith, cell_room 0 first j N.nodes inside)

module _ (C N : Circuit) (groups : List Group) (few : rails_first C N groups + 3 < 2 ^ 32) where
  pub source_room : length C.latches ≡ 0 → HasRoom (copy_numbers N.inputs C) C
  source_room none = copy_room N.inputs C none (let rise = firsts_rise C N groups in omega (arith, rise.0, rise.1, rise.2))

  pub right_room : length N.latches ≡ 0 → HasRoom (copy_numbers (right_first C N) N) N
  right_room none = copy_room (right_first C N) N none (let rise = firsts_rise C N groups in omega (arith, rise.1, rise.2))

  pub failing_room : CellsHaveRoom (cells_from 0 (failing_first C N) N.nodes) N
  failing_room = cells_have_room (failing_first C N) N (let rise = firsts_rise C N groups in omega (arith, rise.2))
