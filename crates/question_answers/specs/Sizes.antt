-- How large nodes are: each counts 1, and 1 for each row of its cover.
use Rattle.std.specs.Prelude.{ℕ, ◌+◌, List, [], ◌∷◌, length}
use Rattle.fault_secure.specs.Circuit.{NodeOf}

abbrev pub size_of : List NodeOf → ℕ
size_of [] = 0
size_of (n ∷ nodes) = 1 + length n.cover.rows + size_of nodes

-- the most lines of a text of 64 MiB, one more than its bytes and one that is open at its end; so large are the nodes in it at most
abbrev pub most_lines : ℕ
most_lines = 67108866
