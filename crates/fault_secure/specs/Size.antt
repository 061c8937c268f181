-- How large a circuit is: the literals and rows of its covers, and its nodes.
use Rattle.std.specs.Prelude.{ℕ, ◌+◌, List, length, count_by}
use Rattle.std.specs.List.{sum_by}
use Rattle.tsc_cover.specs.Cover.{CoverTable, Literal, wants_bit}
use Rattle.fault_secure.specs.Circuit.{Circuit}

-- how many literals of a row ask for a bit
abbrev pub row_literals : List Literal → ℕ
row_literals row = count_by wants_bit row

-- how many literals of a cover do
abbrev pub cover_literals : CoverTable → ℕ
cover_literals c = sum_by row_literals c.rows

-- how many literals of all covers do, and how many rows there are
abbrev pub literal_count : Circuit → ℕ
literal_count C = sum_by (λ n. cover_literals n.cover) C.nodes

-- how many rows all covers of the circuit have
abbrev pub rows : Circuit → ℕ
rows C = sum_by (λ n. length n.cover.rows) C.nodes

-- what one copy of the network may cost
abbrev pub network_size : Circuit → ℕ
network_size C = literal_count C + rows C + length C.nodes + 1
