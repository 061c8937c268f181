-- The names of the inputs and of the outputs: those of lines, else numbered ones; and when they don't fit.
use Rattle.std.specs.Prelude.{◌≡◌, ℕ, Bool, not, ◌||◌, ◌==◌, if◌then◌else◌, List, ◌∷◌, ◌++◌, length, map, max, Option, None, Some}
use Rattle.std.specs.List.{range_with_len}
use Rattle.std.specs.Option.{is_some}
use Rattle.std.specs.Fmt.{decimal}
use Rattle.tsc_net.specs.NetFault.{first_repeat}
use Rattle.tsc_text.specs.TextLine.{TextLine}
use Rattle.table_lines.specs.LineFaults.{names_of}
use Rattle.table_lines.specs.declared.names.NamesError.{NamesError}
use Rattle.table_lines.specs.declared.names.NamesError.TheVariants.{Wrong, Memory}

-- a letter and a number
abbrev pub numbered_name : ℕ → ℕ → List ℕ
numbered_name letter number = letter ∷ decimal number

-- so many names: a letter and the numbers from 0 on
abbrev pub numbered_names : ℕ → ℕ → List (List ℕ)
numbered_names letter count = map (numbered_name letter) (range_with_len 0 count)

-- the names of a line, and without one those of the letter
abbrev pub names_or : Option TextLine → ℕ → ℕ → List (List ℕ)
names_or None letter count = numbered_names letter count
names_or (Some line) letter count = names_of line

-- the names are of a wrong count, or one stands twice
abbrev pub are_wrong_names : List (List ℕ) → ℕ → List (List ℕ) → ℕ → Bool
are_wrong_names inputs wanted outputs asked =
    (not (length inputs == wanted) || not (length outputs == asked)) || is_some (first_repeat (inputs ++ outputs))

-- the later of the lines that give names; where there is neither, no name is given
abbrev pub later_line : Option TextLine → Option TextLine → Option ℕ
later_line None None = None
later_line (Some inputs) None = Some inputs.number
later_line None (Some outputs) = Some outputs.number
later_line (Some inputs) (Some outputs) = Some (max inputs.number outputs.number)

-- this line, where the names are wrong and there is one
abbrev pub wrong_at : Bool → Option ℕ → Option ℕ
wrong_at wrong None = None
wrong_at wrong (Some line) = if wrong then Some line else None

-- the line at which the names are refused that these lines give to so many inputs and outputs
abbrev pub wrong_names : Option TextLine → ℕ → Option TextLine → ℕ → Option ℕ
wrong_names input_line inputs output_line outputs =
    wrong_at (are_wrong_names (names_or input_line 105 inputs) inputs (names_or output_line 111 outputs) outputs) (later_line input_line output_line)

-- the names are refused by this, where `wrong` is that line; want of memory is free
abbrev pub IsWrongBy : Option ℕ → NamesError → Type 0
IsWrongBy wrong (Wrong line) = wrong ≡ Some line
IsWrongBy wrong (Memory error) = Unit {0}
