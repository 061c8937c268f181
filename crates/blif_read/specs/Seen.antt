-- What matters of the lines before a line: the open cover, whether a model and a plan were named, and how much was counted.
use Rattle.std.specs.Prelude.{ℕ, ◌+◌, Bool, true, false, ◌||◌, List, [], ◌∷◌, Option, None, Some}
use Rattle.tsc_text.specs.TextLine.{TextLine}
use Rattle.blif_read.specs.LineKind.{kind_of, name_count, width_of}
use Rattle.blif_read.specs.Rows.{output_of}
use Rattle.blif_read.specs.declared.kinds.LineKind.{LineKind}
use Rattle.blif_read.specs.declared.kinds.LineKind.TheVariants.{PlanLine, Model, Inputs, Outputs, Names, Latch, Row}
use Rattle.blif_read.specs.declared.seen.OpenCover.{OpenCover}
use Rattle.blif_read.specs.declared.seen.Seen.{Seen}

-- how many names or parts a line of this kind adds to the inputs, the outputs, the nodes and the latches
abbrev pub more_inputs : LineKind → TextLine → ℕ
more_inputs Inputs line = name_count line
more_inputs _ line = 0

-- how many names a line of this kind adds to the outputs
abbrev pub more_outputs : LineKind → TextLine → ℕ
more_outputs Outputs line = name_count line
more_outputs _ line = 0

-- how many nodes a line of this kind adds
abbrev pub more_nodes : LineKind → ℕ
more_nodes Names = 1
more_nodes _ = 0

-- how many latches a line of this kind adds
abbrev pub more_latches : LineKind → ℕ
more_latches Latch = 1
more_latches _ = 0

-- how many inputs, outputs, nodes and latches the lines give
abbrev pub inputs_in : List TextLine → ℕ
inputs_in [] = 0
inputs_in (line ∷ lines) = inputs_in lines + more_inputs (kind_of line) line

-- how many outputs the lines give
abbrev pub outputs_in : List TextLine → ℕ
outputs_in [] = 0
outputs_in (line ∷ lines) = outputs_in lines + more_outputs (kind_of line) line

-- how many nodes the lines give
abbrev pub nodes_in : List TextLine → ℕ
nodes_in [] = 0
nodes_in (line ∷ lines) = nodes_in lines + more_nodes (kind_of line)

-- how many latches the lines give
abbrev pub latches_in : List TextLine → ℕ
latches_in [] = 0
latches_in (line ∷ lines) = latches_in lines + more_latches (kind_of line)

-- the kind is that of `.model`
abbrev pub is_model : LineKind → Bool
is_model Model = true
is_model _ = false

-- the kind is that of a plan line
abbrev pub is_plan : LineKind → Bool
is_plan PlanLine = true
is_plan _ = false

-- some line is of `.model`; some line is a plan line
abbrev pub has_model : List TextLine → Bool
has_model [] = false
has_model (line ∷ lines) = is_model (kind_of line) || has_model lines

-- some line is a plan line
abbrev pub has_plan : List TextLine → Bool
has_plan [] = false
has_plan (line ∷ lines) = is_plan (kind_of line) || has_plan lines

-- the output of the first row, of which this one may be the first
abbrev pub first_output : Option Bool → Bool → Option Bool
first_output None output = Some output
first_output (Some first) output = Some first

-- the cover that is open, if one is, after a row with this output
abbrev pub with_row : Option OpenCover → Bool → Option OpenCover
with_row None output = None
with_row (Some cover) output = Some (record { width = cover.width; first = first_output cover.first output })

-- the cover that is open after a line of this kind, where `cover` was open before it: `.names` opens one, a row belongs to it,
-- a plan line passes it over, and any other directive closes it
abbrev pub cover_after : LineKind → TextLine → Option OpenCover → Option OpenCover
cover_after Names line cover = Some (record { width = width_of line; first = None })
cover_after Row line cover = with_row cover (output_of line)
cover_after PlanLine line cover = cover
cover_after _ line cover = None

-- the cover that is open after the lines, the nearest line first
abbrev pub open_cover : List TextLine → Option OpenCover
open_cover [] = None
open_cover (line ∷ back) = cover_after (kind_of line) line (open_cover back)

-- what is seen of the lines before, the nearest line first
abbrev pub seen_of : List TextLine → Seen
seen_of back = record {
  has_model = has_model back;
  has_plan = has_plan back;
  cover = open_cover back;
  inputs = inputs_in back;
  outputs = outputs_in back;
  nodes = nodes_in back;
  latches = latches_in back;
}

-- what is seen after one more line of this kind
abbrev pub seen_behind : Seen → LineKind → TextLine → Seen
seen_behind seen kind line = record {
  has_model = is_model kind || seen.has_model;
  has_plan = is_plan kind || seen.has_plan;
  cover = cover_after kind line seen.cover;
  inputs = seen.inputs + more_inputs kind line;
  outputs = seen.outputs + more_outputs kind line;
  nodes = seen.nodes + more_nodes kind;
  latches = seen.latches + more_latches kind;
}
