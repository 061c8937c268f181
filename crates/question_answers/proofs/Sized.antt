-- The nodes that a section denotes, with the rows of their covers, are at most as many as its lines.
use Rattle.std.proofs.Common.{ℕ, suc, ◌+◌, ◌-◌, ◌≤◌, List, [], ◌∷◌, ◌++◌, map, drop, length, slice_range, arith, length-drop, length-take}
use Rattle.std.proofs.lemmas.List.{length-map}
use Rattle.tsc_cover.specs.Text.{literals_of_text}
use Rattle.tsc_text.specs.Section.{section_lines}
use Rattle.tsc_text.specs.TextLine.{TextLine}
use Rattle.fault_secure.specs.Circuit.{NodeOf}
use Rattle.tsc_net.specs.NetlistOf.{drivers, numbered_node}
use Rattle.blif_read.specs.LineKind.{kind_of}
use Rattle.blif_read.specs.NamedText.{named_text, nodes_at, nodes_of}
use Rattle.blif_read.specs.Rows.{input_of, rows_at, rows_of}
use Rattle.blif_read.specs.declared.kinds.LineKind.{LineKind}
use Rattle.blif_read.specs.declared.kinds.LineKind.TheVariants.{PlanLine, Model, Inputs, Outputs, Names, Latch, OtherDirective, Row}
use Rattle.text_sections.specs.Denoted.{lines_from, net_from, section_from}
use Rattle.question_answers.specs.Sizes.{size_of}

module _ (driven : List (List ℕ)) where
  -- the nodes of lines, with nets by number
  abbrev nodes_in : List TextLine → List NodeOf
  nodes_in lines = map (numbered_node driven) (nodes_of lines)

  -- a row of lines belongs to the node before it alone
  by_kind : (kind : LineKind) (line : TextLine) (lines : List TextLine) → size_of (nodes_in lines) + length (rows_of lines) ≤ length lines
      → size_of (map (numbered_node driven) (nodes_at kind line lines ++ nodes_of lines)) + length (rows_at kind line (rows_of lines)) ≤ suc (length lines)
  by_kind PlanLine line lines before = omega (arith, before)
  by_kind Model line lines before = omega (arith, before)
  by_kind Inputs line lines before = omega (arith, before)
  by_kind Outputs line lines before = omega (arith, before)
  by_kind Names line lines before = omega (arith, before, length-map (rows_of lines) (λ (row : TextLine). literals_of_text (input_of row.words)))
  by_kind Latch line lines before = omega (arith, before)
  by_kind OtherDirective line lines before = omega (arith, before)
  by_kind Row line lines before = omega (arith, before)

  sized : (lines : List TextLine) → size_of (nodes_in lines) + length (rows_of lines) ≤ length lines
  sized [] = omega arith
  sized (line ∷ lines) = by_kind (kind_of line) line lines (sized lines)

range_few : {A : Type 0} (xs : List A) (from to : ℕ) → length (slice_range xs from to) ≤ length xs
range_few xs from to = omega (arith, length-take (to - from) (drop from xs), length-drop from xs)

-- the nodes of a section's netlist are at most as many, with their rows, as all lines
pub size_from : (lines : List TextLine) (from : ℕ) → size_of (net_from lines from).circuit.nodes ≤ length lines
size_from lines from =
    let section = section_from lines from in
    omega (arith, sized (drivers (named_text (lines_from lines from))) (lines_from lines from), range_few lines section.first section.past)
