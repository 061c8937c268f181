-- What a text denotes, by names: the selections of its lines.
use Rattle.std.specs.Prelude.{ℕ, ◌-◌, List, [], ◌∷◌, ◌++◌, codes, length}
use Rattle.std.specs.Str.{bytes_eq}
use Rattle.tsc_net.specs.Named.{Named, NamedLatch, NamedNode}
use Rattle.tsc_text.specs.TextLine.{TextLine, the_word}
use Rattle.blif_read.specs.LineKind.{kind_of, names_of, pins_of, net_of, width_of}
use Rattle.blif_read.specs.Rows.{rows_of, cover_with}
use Rattle.blif_read.specs.declared.kinds.LineKind.{LineKind}
use Rattle.blif_read.specs.declared.kinds.LineKind.TheVariants.{Model, Inputs, Outputs, Names, Latch}

-- the names that a line of this kind adds to the inputs, and to the outputs
abbrev pub input_names : LineKind → TextLine → List (List ℕ)
input_names Inputs line = names_of line
input_names _ line = []

-- the names that a line of this kind adds to the outputs
abbrev pub output_names : LineKind → TextLine → List (List ℕ)
output_names Outputs line = names_of line
output_names _ line = []

-- a latch reads its first name and gives its second; its last word is the bit that it holds first
abbrev pub latch_at : TextLine → NamedLatch
latch_at line = record { reads = the_word line 1; out = the_word line 2; init = bytes_eq (the_word line (length line.words - 1)) (codes "1") }

-- the latches that a line of this kind adds
abbrev pub latches_at : LineKind → TextLine → List NamedLatch
latches_at Latch line = latch_at line ∷ []
latches_at _ line = []

-- a node reads its pins and drives its net, by the cover of the rows among the lines after it up to the next directive
abbrev pub node_at : TextLine → List TextLine → NamedNode
node_at line behind = record { reads = pins_of line; out = net_of line; cover = cover_with (width_of line) (rows_of behind) }

-- the nodes that a line of this kind adds, with the lines after it
abbrev pub nodes_at : LineKind → TextLine → List TextLine → List NamedNode
nodes_at Names line behind = node_at line behind ∷ []
nodes_at _ line behind = []

-- the name that a line of `.model` gives, if it gives one
abbrev pub name_or : List ℕ → List (List ℕ) → List ℕ
name_or model [] = model
name_or model (name ∷ names) = name

-- the name of the model after a line of this kind, where it was `model` before
abbrev pub model_at : List ℕ → LineKind → TextLine → List ℕ
model_at model Model line = name_or model (names_of line)
model_at model _ line = model

-- the name of the model: `model` where no line gives one
abbrev pub model_or : List ℕ → List TextLine → List ℕ
model_or model [] = model
model_or model (line ∷ lines) = model_or (model_at model (kind_of line) line) lines

-- the inputs: the words of all lines of `.inputs`, in order
abbrev pub inputs_of : List TextLine → List (List ℕ)
inputs_of [] = []
inputs_of (line ∷ lines) = input_names (kind_of line) line ++ inputs_of lines

-- the outputs: the words of all lines of `.outputs`, in order
abbrev pub outputs_of : List TextLine → List (List ℕ)
outputs_of [] = []
outputs_of (line ∷ lines) = output_names (kind_of line) line ++ outputs_of lines

-- the latches: the lines of `.latch`, in order
abbrev pub latches_of : List TextLine → List NamedLatch
latches_of [] = []
latches_of (line ∷ lines) = latches_at (kind_of line) line ++ latches_of lines

-- the nodes: the lines of `.names`, in order
abbrev pub nodes_of : List TextLine → List NamedNode
nodes_of [] = []
nodes_of (line ∷ lines) = nodes_at (kind_of line) line lines ++ nodes_of lines

-- the netlist that the lines of a section denote
abbrev pub named_text : List TextLine → Named
named_text lines = record {
  model = model_or (codes "model") lines;
  inputs = inputs_of lines;
  outputs = outputs_of lines;
  latches = latches_of lines;
  nodes = nodes_of lines;
}
