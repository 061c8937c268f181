-- The clauses of the copy with a failing cell, over the numbers of its variables.
use Rattle.std.specs.Prelude.{ℕ, ◌+◌, ◌-◌, ◌<◌, ◌^◌, List, [], ◌∷◌, ◌++◌, map, filter, length, nat_le, nat_eq, if◌then◌else◌, slice_index, slice_index_or}
use Rattle.fault_secure.specs.Circuit.{Circuit, NodeOf, node}
use Rattle.refutations.specs.declared.literal.Literal.{Literal}
use Rattle.exact_question.specs.Rows.{literal, rows_of}
use Rattle.question_text.specs.declared.cells.Cell.{Cell}
use Rattle.question_text.specs.Gates.{is_one, is_zero, xor_of}
use Rattle.question_text.specs.Covers.{cover_gates}
use Rattle.question_text.specs.Nodes.{wide_of}

-- the variables of a node, the first of which is `at`, where so many of its rows have a variable
abbrev pub cell_from : ℕ → ℕ → ℕ → Cell
cell_from j at rows = record {
  choice = at;
  gate = at + 1;
  net = at + 2;
  rows = at + 3;
  differs = at + 3 + rows;
  chosen = if nat_eq j 0 then at else at + 4 + rows;
}

-- the number behind them: the first node has no variable of its own that some node up to it is chosen
abbrev pub cell_end : ℕ → ℕ → ℕ → ℕ
cell_end j at rows = if nat_eq j 0 then at + 4 + rows else at + 5 + rows

abbrev pub cells_from : ℕ → ℕ → List NodeOf → List Cell
cells_from j at [] = []
cells_from j at (n ∷ nodes) = cell_from j at (wide_of n) ∷ cells_from (j + 1) (cell_end j at (wide_of n)) nodes

abbrev pub cells_end : ℕ → ℕ → List NodeOf → ℕ
cells_end j at [] = at
cells_end j at (n ∷ nodes) = cells_end (j + 1) (cell_end j at (wide_of n)) nodes

abbrev pub no_cell : Cell
no_cell = record { choice = 0; gate = 0; net = 0; rows = 0; differs = 0; chosen = 0 }

abbrev pub cell_at : List Cell → ℕ → Cell
cell_at cells j = slice_index_or cells j no_cell

-- that one of these nets differs, of those that a node drives
abbrev pub differs_of : ℕ → List Cell → List ℕ → List Literal
differs_of inputs cells nets = map (λ net. is_one (cell_at cells (net - inputs)).differs) (filter (λ net. nat_le inputs net) nets)

-- at most one node is chosen, up to this one
abbrev pub choice_gates : List Cell → ℕ → List (List Literal)
choice_gates cells j =
    if nat_eq j 0 then []
    else (is_zero (cell_at cells (j - 1)).chosen ∷ is_one (cell_at cells j).chosen ∷ [])
    ∷ (is_zero (cell_at cells j).choice ∷ is_one (cell_at cells j).chosen ∷ [])
    ∷ (is_zero (cell_at cells j).choice ∷ is_zero (cell_at cells (j - 1)).chosen ∷ [])
    ∷ []

-- what the net of a node with these variables is, and what its cover gives
abbrev pub wrong_gates : List ℕ → Cell → NodeOf → List (List Literal)
wrong_gates numbers c n = xor_of c.net (is_one c.gate) (is_one c.choice) ++ cover_gates numbers c.rows (literal c.gate n.cover.on) (rows_of n)

-- the clauses of a node with these variables, whose net has the number `right` without a fault
abbrev pub cell_gates : List ℕ → ℕ → ℕ → List Cell → Cell → NodeOf → List (List Literal)
cell_gates numbers right inputs cells c n =
    wrong_gates numbers c n
    ++ xor_of c.differs (is_one right) (is_one c.net)
    ++ (is_zero c.differs ∷ is_one c.choice ∷ differs_of inputs cells n.reads) ∷ []

-- the clauses of nodes from number j on, the first of which drives the net `net`
abbrev pub failing_gates : List ℕ → List ℕ → ℕ → List Cell → ℕ → ℕ → List NodeOf → List (List Literal)
failing_gates numbers right inputs cells j net [] = []
failing_gates numbers right inputs cells j net (n ∷ nodes) =
    cell_gates numbers (slice_index right net) inputs cells (cell_at cells j) n ++ choice_gates cells j
    ++ failing_gates numbers right inputs cells (j + 1) (net + 1) nodes

-- there is room for the variables of each node's rows
abbrev pub CellsHaveRoom : List Cell → Circuit → Type 0
CellsHaveRoom cells N = (j : ℕ) → j < length N.nodes → (cell_at cells j).rows + wide_of (node N j) < 2 ^ 32
