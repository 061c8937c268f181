-- Why a line is refused, by its words alone.
use Rattle.std.specs.Prelude.{ℕ, Bool, true, false, ◌&&◌, ◌==◌, if◌then◌else◌, List, [], ◌∷◌, drop, length, nat_lt, unwrap_or, Option, None, Some}
use Rattle.std.specs.Option.{is_some}
use Rattle.tsc_cover.specs.Text.{is_row_text}
use Rattle.tsc_text.specs.TextLine.{TextLine, the_word}
use Rattle.tsc_text.specs.Number.{number_of}
use Rattle.table_lines.specs.declared.cause.Cause.{Cause}
use Rattle.table_lines.specs.declared.cause.Cause.TheVariants.{Header, Limit}
use Rattle.tsc_text.specs.declared.which.Which.{Which}
use Rattle.tsc_text.specs.declared.which.Which.TheVariants.{NameBytes}

-- the most bytes of a name
abbrev pub most_name_bytes : ℕ
most_name_bytes = 255

-- the greatest number of inputs and of outputs
abbrev pub most_ports : ℕ
most_ports = 64

-- the greatest number of rows
abbrev pub most_rows : ℕ
most_rows = 16384

-- the names of a line of names: all its words except the first
abbrev pub names_of : TextLine → List (List ℕ)
names_of line = drop 1 line.words

-- the number that a line gives
abbrev pub number_in : TextLine → ℕ
number_in line = unwrap_or (number_of (the_word line 1)) 0

-- the name has more bytes than a name may have
abbrev pub is_long : List ℕ → Bool
is_long name = nat_lt most_name_bytes (length name)

-- the limit that the bytes of a name pass
abbrev pub long_name : List (List ℕ) → Option Cause
long_name [] = None
long_name (name ∷ names) = if is_long name then Some (Limit NameBytes) else long_name names

-- the fault of a number of inputs or outputs: there is none, it is 0, or it is above the greatest
abbrev pub number_fault : Which → Option ℕ → Option Cause
number_fault which None = Some Header
number_fault which (Some number) =
    if number == 0 then Some Header else (if nat_lt most_ports number then Some (Limit which) else None)

-- the fault of a line with one number of inputs or outputs
abbrev pub count_fault : Which → TextLine → Option Cause
count_fault which line = if length line.words == 2 then number_fault which (number_of (the_word line 1)) else Some Header

-- the fault of a line with a number that is only read
abbrev pub read_fault : TextLine → Option Cause
read_fault line = if length line.words == 2 && is_some (number_of (the_word line 1)) then None else Some Header

-- the fault of a directive that came before, or else its own
abbrev pub unless_before : Bool → Option Cause → Option Cause
unless_before true fault = Some Header
unless_before false fault = fault

-- the word has so many characters, each `0`, `1` or `-`
abbrev pub is_pattern : ℕ → List ℕ → Bool
is_pattern width word = length word == width && is_row_text word
