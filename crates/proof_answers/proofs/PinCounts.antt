-- The rows of the nodes that a section denotes have no more literals than the section's words have bytes.
use Rattle.std.proofs.Common.{◌≡◌, ℕ, ◌+◌, ◌≤◌, List, [], ◌∷◌, ◌++◌, map, length, arith}
use Rattle.std.proofs.lemmas.List.{length-map}
use Rattle.tsc_cover.specs.Text.{literal_of, literals_of_text}
use Rattle.tsc_text.specs.TextLine.{TextLine}
use Rattle.fault_secure.specs.Circuit.{NodeOf}
use Rattle.tsc_net.specs.NetlistOf.{drivers, numbered_node}
use Rattle.blif_read.specs.LineKind.{kind_of}
use Rattle.blif_read.specs.NamedText.{named_text, nodes_at, nodes_of}
use Rattle.blif_read.specs.Rows.{input_of, rows_at, rows_of}
use Rattle.blif_read.specs.declared.kinds.LineKind.{LineKind}
use Rattle.blif_read.specs.declared.kinds.LineKind.TheVariants.{PlanLine, Model, Inputs, Outputs, Names, Latch, OtherDirective, Row}
use Rattle.text_sections.specs.Denoted.{lines_from, net_from, section_from}
use Rattle.proof_answers.specs.Sizes.{bytes_of, pins_of, total}
use Rattle.proof_answers.proofs.ByteCounts.{range_bytes}

-- the characters for the pins of rows
abbrev inputs_total : List TextLine → ℕ
inputs_total [] = 0
inputs_total (row ∷ rows) = length (input_of row.words) + inputs_total rows

rows_total : (rows : List TextLine) → total (map (λ (row : TextLine). literals_of_text (input_of row.words)) rows) ≡ inputs_total rows
rows_total [] = omega arith
rows_total (row ∷ rows) = omega (arith, length-map (input_of row.words) literal_of, rows_total rows)

input_long : (words : List (List ℕ)) → length (input_of words) ≤ total words
input_long [] = omega arith
input_long (word ∷ []) = omega arith
input_long (input ∷ output ∷ more) = omega arith

module _ (driven : List (List ℕ)) where
  -- the nodes of lines, with nets by number
  abbrev nodes_in : List TextLine → List NodeOf
  nodes_in lines = map (numbered_node driven) (nodes_of lines)

  -- a row of lines belongs to the node before it alone
  by_kind : (kind : LineKind) (line : TextLine) (lines : List TextLine) → pins_of (nodes_in lines) + inputs_total (rows_of lines) ≤ bytes_of lines
      → pins_of (map (numbered_node driven) (nodes_at kind line lines ++ nodes_of lines)) + inputs_total (rows_at kind line (rows_of lines)) ≤ total line.words + bytes_of lines
  by_kind PlanLine line lines before = omega (arith, before)
  by_kind Model line lines before = omega (arith, before)
  by_kind Inputs line lines before = omega (arith, before)
  by_kind Outputs line lines before = omega (arith, before)
  by_kind Names line lines before = omega (arith, before, rows_total (rows_of lines))
  by_kind Latch line lines before = omega (arith, before)
  by_kind OtherDirective line lines before = omega (arith, before)
  by_kind Row line lines before = omega (arith, before, input_long line.words)

  pins_few : (lines : List TextLine) → pins_of (nodes_in lines) + inputs_total (rows_of lines) ≤ bytes_of lines
  pins_few [] = omega arith
  pins_few (line ∷ lines) = by_kind (kind_of line) line lines (pins_few lines)

-- the rows of a section's netlist have no more literals than all lines have bytes
pub pins_from : (lines : List TextLine) (from : ℕ) → pins_of (net_from lines from).circuit.nodes ≤ bytes_of lines
pins_from lines from =
    let section = section_from lines from in
    omega (arith, pins_few (drivers (named_text (lines_from lines from))) (lines_from lines from), range_bytes lines section.first section.past)
