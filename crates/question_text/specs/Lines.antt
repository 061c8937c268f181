-- The comments over numbers.
use Rattle.std.specs.Prelude.{ℕ, zero, suc, ◌+◌, List, [], ◌++◌, codes, length, slice_index}
use Rattle.fault_secure.specs.Circuit.{node_net}
use Rattle.tsc_net.specs.Names.{text_at}
use Rattle.tsc_net.specs.NetlistOf.{NetlistOf}
use Rattle.question_text.specs.declared.cells.Cell.{Cell}
use Rattle.question_text.specs.declared.numbers.Numbers.{Numbers}
use Rattle.question_text.specs.Failing.{cell_at}
use Rattle.question_text.specs.Text.{name_line}

-- the lines of so many nets, from a net on
abbrev pub net_lines : List ℕ → List (List ℕ) → List ℕ → ℕ → ℕ → List ℕ
net_lines kind names numbers net zero = []
net_lines kind names numbers net (suc count) = name_line kind (slice_index numbers net) (text_at names net) ++ net_lines kind names numbers (net + 1) count

-- the lines of a node
abbrev pub cell_lines : List (List ℕ) → Cell → ℕ → List ℕ
cell_lines names cell net = name_line (codes "cell") cell.choice (text_at names net) ++ name_line (codes "wrong") cell.net (text_at names net)

-- the lines of so many nodes, from number j on, which drives the net `net`
abbrev pub cells_lines : List (List ℕ) → List Cell → ℕ → ℕ → ℕ → List ℕ
cells_lines names cells j net zero = []
cells_lines names cells j net (suc count) = cell_lines names (cell_at cells j) net ++ cells_lines names cells (j + 1) (net + 1) count

abbrev pub comment_lines : NetlistOf → NetlistOf → Numbers → List ℕ
comment_lines S N n =
    net_lines (codes "input") N.names n.right 0 N.circuit.inputs
    ++ net_lines (codes "net") S.names n.source (node_net S.circuit 0) (length S.circuit.nodes)
    ++ net_lines (codes "net") N.names n.right (node_net N.circuit 0) (length N.circuit.nodes)
    ++ cells_lines N.names n.cells 0 (node_net N.circuit 0) (length N.circuit.nodes)
