-- The networks of a table: that of its values, by names, and what a network answers.
use Rattle.std.specs.Prelude.{◌≡◌, ℕ, Bool, true, List, [], codes, filter, length, map}
use Rattle.std.specs.List.{range_with_len}
use Rattle.tsc_cover.specs.Cover.{CoverTable, Literal}
use Rattle.fault_secure.specs.Circuit.{Circuit, bit}
use Rattle.fault_secure.specs.Logic.{NetworkAnswers}
use Rattle.tsc_net.specs.Named.{Named, NamedNode}
use Rattle.tsc_net.specs.Names.{text_at}
use Rattle.tsc_text.specs.TextLine.{TextLine}
use Rattle.table_lines.specs.NamesText.{names_or}
use Rattle.pla_read.specs.Selections.{inputs_of, line_of, outputs_of}
use Rattle.pla_read.specs.RowText.{TableRow}
use Rattle.pla_read.specs.TableText.{table_text, TableOf}
use Rattle.pla_read.specs.declared.kinds.LineKind.TheVariants.{InputNames, OutputNames}

-- the names of the inputs: those of `.ilb`, and without one i0, i1 and so on
abbrev pub input_names : List TextLine → List (List ℕ)
input_names lines = names_or (line_of InputNames lines) 105 (inputs_of lines)

-- the names of the outputs: those of `.ob`, and without one o0, o1 and so on
abbrev pub output_names : List TextLine → List (List ℕ)
output_names lines = names_or (line_of OutputNames lines) 111 (outputs_of lines)

-- the input parts of the rows that make the output 1, in order
abbrev pub ones_at : List TableRow → ℕ → List (List Literal)
ones_at rows place = map (λ row. row.input) (filter (λ row. bit row.ones place) rows)

-- the cover of an output: an on-set over all inputs, with the rows that make it 1
abbrev pub ones_cover : TableOf → ℕ → CoverTable
ones_cover table place = record { width = table.inputs; on = true; rows = ones_at table.rows place }

-- the node of an output
abbrev pub value_node : List (List ℕ) → List (List ℕ) → TableOf → ℕ → NamedNode
value_node inputs outputs table place = record { reads = inputs; out = text_at outputs place; cover = ones_cover table place }

-- the network of the values of a table: one node per output, in order
abbrev pub value_named : List (List ℕ) → List (List ℕ) → TableOf → Named
value_named inputs outputs table = record {
  model = codes "pla";
  inputs = inputs;
  outputs = outputs;
  latches = [];
  nodes = map (value_node inputs outputs table) (range_with_len 0 table.outputs);
}

-- that of the lines
abbrev pub value_text : List TextLine → Named
value_text lines = value_named (input_names lines) (output_names lines) (table_text lines)

-- the bits of a function of places, so many of them
abbrev pub bits_by : (ℕ → Bool) → ℕ → List Bool
bits_by f count = map f (range_with_len 0 count)

-- at each input the network answers one list of bits, which is that of the function
pub record AnswersAs (f : List Bool → ℕ → Bool) (C : Circuit) : Type 0 where
  pub answers : (x : List Bool) → NetworkAnswers C x (bits_by (f x) (length C.outputs))
  pub alone : (x ys : List Bool) → NetworkAnswers C x ys → ys ≡ bits_by (f x) (length C.outputs)
