-- The names of the inputs and of the outputs of a text.
use Rattle.std.specs.Prelude.{ℕ, List}
use Rattle.tsc_text.specs.TextLine.{TextLine}
use Rattle.table_lines.specs.NamesText.{names_or}
use Rattle.kiss_read.specs.Selections.{line_of, inputs_of, outputs_of}
use Rattle.kiss_read.specs.declared.kinds.LineKind.TheVariants.{InputNames, OutputNames}

-- the names of the inputs: those of `.ilb`, and without one i0, i1 and so on
abbrev pub input_names : List TextLine → List (List ℕ)
input_names lines = names_or (line_of InputNames lines) 105 (inputs_of lines)

-- the names of the outputs: those of `.ob`, and without one o0, o1 and so on
abbrev pub output_names : List TextLine → List (List ℕ)
output_names lines = names_or (line_of OutputNames lines) 111 (outputs_of lines)
