-- The clock of registers: the type and the control of their lines.
use Rattle.std.specs.Prelude.{ℕ, Bool, true, false, not, ◌&&◌, ◌||◌, if◌then◌else◌, List, [], ◌∷◌, codes, nat_le, Option, None, Some}
use Rattle.std.specs.Str.{bytes_eq}
use Rattle.std.specs.List.{list_any}
use Rattle.tsc_text.specs.TextLine.{TextLine, the_word}
use Rattle.blif_read.specs.LineKind.{kind_of, names_of, name_count}
use Rattle.blif_read.specs.Faults.{has_latch_shape}
use Rattle.blif_read.specs.declared.kinds.Kind.{Kind}
use Rattle.blif_read.specs.declared.kinds.Kind.TheVariants.{Source, Registers, Netlist, AnyPlan, Unplanned}
use Rattle.blif_read.specs.declared.kinds.LineKind.{LineKind}
use Rattle.blif_read.specs.declared.kinds.LineKind.TheVariants.{Outputs, Names, Latch}
use Rattle.blif_read.specs.declared.clocks.Clock.{Clock}
use Rattle.blif_read.specs.declared.clocks.Edge.{Edge}
use Rattle.blif_read.specs.declared.clocks.Edge.TheVariants.{Rising, Falling}

-- the kind is that of `.latch`
abbrev pub is_latch : LineKind → Bool
is_latch Latch = true
is_latch _ = false

-- the line of a latch has a type and a control
abbrev pub has_clock : TextLine → Bool
has_clock line = nat_le 4 (name_count line)

-- the type and the control of the line of a latch
abbrev pub edge_word : TextLine → List ℕ
edge_word line = the_word line 3

-- the control of the line of a latch
abbrev pub control_word : TextLine → List ℕ
control_word line = the_word line 4

-- the type is that of an edge
abbrev pub is_edge : List ℕ → Bool
is_edge word = bytes_eq word (codes "re") || bytes_eq word (codes "fe")

-- the line of a latch has no clock, as the first such line; or it has the type of an edge, and type and control of the first
abbrev pub fits_clock : TextLine → TextLine → Bool
fits_clock first line =
    if has_clock line then ((has_clock first && is_edge (edge_word line)) && (bytes_eq (edge_word first) (edge_word line) && bytes_eq (control_word first) (control_word line)))
    else not (has_clock first)

-- the line is that of a latch, with its words, and its clock doesn't fit
abbrev pub is_misfit : TextLine → TextLine → Bool
is_misfit first line = is_latch (kind_of line) && (has_latch_shape line && not (fits_clock first line))

-- the number of the first line whose clock doesn't fit
abbrev pub first_misfit : TextLine → List TextLine → Option ℕ
first_misfit first [] = None
first_misfit first (line ∷ lines) = if is_misfit first line then Some line.number else first_misfit first lines

-- the first line of a latch
abbrev pub first_latch : List TextLine → Option TextLine
first_latch [] = None
first_latch (line ∷ lines) = if is_latch (kind_of line) then Some line else first_latch lines

-- the number of the first line whose clock doesn't fit that of this one, if there is one
abbrev pub misfit_of : Option TextLine → List TextLine → Option ℕ
misfit_of None lines = None
misfit_of (Some first) lines = first_misfit first lines

-- the number of the first line whose clock doesn't fit that of the first latch
abbrev pub clock_misfit : List TextLine → Option ℕ
clock_misfit lines = misfit_of (first_latch lines) lines

-- the nets that a line of this kind gives or reads
abbrev pub nets_at : LineKind → TextLine → List (List ℕ)
nets_at Outputs line = names_of line
nets_at Names line = names_of line
nets_at Latch line = the_word line 1 ∷ the_word line 2 ∷ []
nets_at _ line = []

-- the line gives or reads a net of this name
abbrev pub uses_net : List ℕ → TextLine → Bool
uses_net name line = list_any (bytes_eq name) (nets_at (kind_of line) line)

-- the line of a latch has a control that some line gives or reads
abbrev pub is_used_clock : TextLine → List TextLine → Bool
is_used_clock first lines = has_clock first && list_any (uses_net (control_word first)) lines

-- the number of this line, if there is one, where its control is given or read
abbrev pub used_clock_at : Option TextLine → List TextLine → Option ℕ
used_clock_at None lines = None
used_clock_at (Some first) lines = if is_used_clock first lines then Some first.number else None

-- the number of the first line of a latch, where a cover or a latch gives its control, or a cover, a latch or an output reads it
abbrev pub used_clock : List TextLine → Option ℕ
used_clock lines = used_clock_at (first_latch lines) lines

-- the edge of a type
abbrev pub edge_of : List ℕ → Edge
edge_of word = if bytes_eq word (codes "fe") then Falling else Rising

-- the clock of this line, if there is one and it has one
abbrev pub clock_at : Option TextLine → Option Clock
clock_at None = None
clock_at (Some first) = if has_clock first then Some (record { edge = edge_of (edge_word first); control = control_word first }) else None

-- the clock of registers, and of a netlist whose plan may list no states; of other sections none is read
abbrev pub clock_text : Kind → List TextLine → Option Clock
clock_text Source lines = None
clock_text Registers lines = clock_at (first_latch lines)
clock_text Netlist lines = None
clock_text AnyPlan lines = clock_at (first_latch lines)
clock_text Unplanned lines = None
