-- How large the nodes and the lines of a text are, of the code alone: how many literals stand in the rows of nodes, and how many bytes in the
-- words of lines.
use Rattle.std.specs.Prelude.{ℕ, ◌+◌, ◌≤◌, List, [], ◌∷◌, length}
use Rattle.fault_secure.specs.Circuit.{NodeOf}
use Rattle.tsc_text.specs.TextLine.{TextLine}
use Rattle.question_answers.specs.Sizes.{most_lines, size_of}

-- how many items stand in lists
abbrev pub total : {A : Type 0} → List (List A) → ℕ
total [] = 0
total (list ∷ lists) = length list + total lists

-- the literals of rows, those for which a pin is free too
abbrev pub pins_of : List NodeOf → ℕ
pins_of [] = 0
pins_of (n ∷ nodes) = total n.cover.rows + pins_of nodes

-- the bytes of words
abbrev pub bytes_of : List TextLine → ℕ
bytes_of [] = 0
bytes_of (line ∷ lines) = total line.words + bytes_of lines

-- the bytes of a text of 64 MiB
abbrev pub most_bytes : ℕ
most_bytes = 67108864

-- lines are as many, and their words as long, as those of such a text are at most
pub record AreFew (lines : List TextLine) : Type 0 where
  pub count : length lines ≤ most_lines
  pub bytes : bytes_of lines ≤ most_bytes

-- nodes with their rows, and the literals in these, are as many as in such a text at most
pub record AreSmall (nodes : List NodeOf) : Type 0 where
  pub rows : size_of nodes ≤ most_lines
  pub pins : pins_of nodes ≤ most_bytes
