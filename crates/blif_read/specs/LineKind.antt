-- The kinds of the lines of a BLIF text, by their first words.
use Rattle.std.specs.Prelude.{ℕ, ◌-◌, if◌then◌else◌, List, codes, drop, length, slice_range}
use Rattle.std.specs.Str.{bytes_eq}
use Rattle.tsc_text.specs.TextLine.{TextLine, the_word}
use Rattle.tsc_text.specs.Bytes.{begins_with_dot}
use Rattle.blif_read.specs.declared.kinds.LineKind.{LineKind}
use Rattle.blif_read.specs.declared.kinds.LineKind.TheVariants.{PlanLine, Model, Inputs, Outputs, Names, Latch, OtherDirective, Row}

-- the kind of a line with this first word that is no plan line
abbrev pub kind_of_word : List ℕ → LineKind
kind_of_word word =
    if bytes_eq word (codes ".model") then Model
    else (if bytes_eq word (codes ".inputs") then Inputs
    else (if bytes_eq word (codes ".outputs") then Outputs
    else (if bytes_eq word (codes ".names") then Names
    else (if bytes_eq word (codes ".latch") then Latch
    else (if begins_with_dot word then OtherDirective else Row)))))

-- the kind of a line
abbrev pub kind_of : TextLine → LineKind
kind_of line = if line.is_plan then PlanLine else kind_of_word (the_word line 0)

-- the names of a line of names: all its words except the first
abbrev pub names_of : TextLine → List (List ℕ)
names_of line = drop 1 line.words

-- the number of names of a line
abbrev pub name_count : TextLine → ℕ
name_count line = length line.words - 1

-- the pins of a line of `.names`: all its names except the last
abbrev pub pins_of : TextLine → List (List ℕ)
pins_of line = slice_range line.words 1 (length line.words - 1)

-- the net of a line of `.names`: its last word
abbrev pub net_of : TextLine → List ℕ
net_of line = the_word line (length line.words - 1)

-- the number of pins of a line of `.names`
abbrev pub width_of : TextLine → ℕ
width_of line = length line.words - 2
