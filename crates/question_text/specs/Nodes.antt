-- The numbers of nets in a copy of a circuit, and the clauses of its nodes: each net of a node is followed by the variables of its rows.
use Rattle.std.specs.Prelude.{ℕ, zero, suc, ◌+◌, ◌<◌, ◌^◌, List, [], ◌∷◌, ◌++◌, length, slice_index}
use Rattle.fault_secure.specs.Circuit.{Circuit, NodeOf, node, node_net}
use Rattle.refutations.specs.declared.literal.Literal.{Literal}
use Rattle.exact_question.specs.Rows.{literal, rows_of}
use Rattle.question_text.specs.Covers.{wide, cover_gates}

-- how many rows of a node have a variable
abbrev pub wide_of : NodeOf → ℕ
wide_of n = wide (rows_of n)

-- the first numbers
abbrev pub first_numbers : ℕ → List ℕ
first_numbers zero = []
first_numbers (suc n) = first_numbers n ++ n ∷ []

-- the numbers of the nets of nodes
abbrev pub numbers_from : ℕ → List NodeOf → List ℕ
numbers_from at [] = []
numbers_from at (n ∷ nodes) = at ∷ numbers_from (at + 1 + wide_of n) nodes

-- the number behind them and their rows
abbrev pub end_from : ℕ → List NodeOf → ℕ
end_from at [] = at
end_from at (n ∷ nodes) = end_from (at + 1 + wide_of n) nodes

-- the clauses of a node whose net has this number
abbrev pub node_gates : List ℕ → ℕ → NodeOf → List (List Literal)
node_gates numbers variable n = cover_gates numbers (variable + 1) (literal variable n.cover.on) (rows_of n)

-- the clauses of nodes, the first of which drives the net `net`
abbrev pub nodes_gates : List ℕ → ℕ → List NodeOf → List (List Literal)
nodes_gates numbers net [] = []
nodes_gates numbers net (n ∷ nodes) = node_gates numbers (slice_index numbers net) n ++ nodes_gates numbers (net + 1) nodes

-- there is room for the variables of each node's rows
abbrev pub HasRoom : List ℕ → Circuit → Type 0
HasRoom numbers N = (j : ℕ) → j < length N.nodes → slice_index numbers (node_net N j) + 1 + wide_of (node N j) < 2 ^ 32
