-- A netlist that lines without a fault denote: its nodes can be written, and its outputs are different.
use Rattle.std.proofs.Common.{◌≡◌, ℕ, zero, suc, ◌-◌, ◌<◌, true, List, [], ◌∷◌, ◌++◌, length, map, get_or, refl, sym, ap, ◌∙◌, arith, Option, None, Some, All}
use Rattle.std.proofs.lemmas.List.{get_or-map, length-map}
use Rattle.std.proofs.lemmas.List.Elements.{All-nil, All-cons, All-append}
use Rattle.tsc_cover.specs.Cover.{Literal}
use Rattle.tsc_cover.specs.Text.{literals_of_text}
use Rattle.tsc_cover.proofs.Text.{length-literals_of_text}
use Rattle.fault_secure.specs.Circuit.{NodeOf}
use Rattle.tsc_net.specs.Named.{Named, NamedNode}
use Rattle.tsc_net.specs.Names.{has_text, place_of_text, text_at, IsNumbering}
use Rattle.tsc_net.specs.NetFault.{cycle, fault_of, first_fault, first_missing, first_repeat, joined, no_outputs, reads_of, twice, undriven}
use Rattle.tsc_net.specs.NetlistOf.{circuit_of, drivers, names_of}
use Rattle.tsc_net.specs.declared.net_error.NetError.{NetError}
use Rattle.tsc_net.proofs.NetlistLemmas.{all_driven, driven-back, numbering-without_repeat, texts_at_places}
use Rattle.tsc_text.specs.TextLine.{TextLine}
use Rattle.blif_read.specs.Clean.{AreClean, AreShaped, IsCleanAt, IsCleanNode}
use Rattle.blif_read.specs.LineKind.{kind_of, pins_of, width_of}
use Rattle.blif_read.specs.NamedText.{node_at, nodes_at, nodes_of}
use Rattle.blif_read.specs.Rows.{has_row_shape, input_of, is_on_set, rows_of}
use Rattle.blif_read.specs.declared.kinds.LineKind.{LineKind}
use Rattle.blif_read.specs.declared.kinds.LineKind.TheVariants.{PlanLine, Model, Inputs, Outputs, Names, Latch, OtherDirective, Row}
use Rattle.blif_read.proofs.RowWalk.{HasPins, row_with_pins, row_without_pins}
use Rattle.blif_read.proofs.CoverBuilt.{row_literals}
use Rattle.blif_write.specs.Writable.{IsWritableNode}
use Rattle.tsc_bits.specs.Lists.{AreApart}
use Rattle.tsc_text.proofs.Stored.{length-slice_range}

-- a row of its shape has a literal a pin
row-sized : (width : ℕ) (words : List (List ℕ)) → has_row_shape width words ≡ true → length (literals_of_text (input_of words)) ≡ width
row-sized zero words e = ap (λ text. length (literals_of_text text)) (row_without_pins words e)
row-sized (suc width) words e =
    let pins : HasPins (suc width) words = row_with_pins (suc width) words e (omega arith) in
    length-literals_of_text (input_of words) ∙ (ap length pins.input ∙ pins.wide)

abbrev IsSized : ℕ → List Literal → Type 0
IsSized width row = length row ≡ width

rows-sized : (width : ℕ) (rows : List TextLine) → AreShaped width rows → All (IsSized width) (map row_literals rows)
rows-sized width [] h = All-nil (IsSized width)
rows-sized width (row ∷ rows) h = All-cons (IsSized width) (row_literals row) (map row_literals rows) (row-sized width row.words h.0) (rows-sized width rows h.1)

-- a cover without rows is an on-set
set-of_none : (rows : List TextLine) → map row_literals rows ≡ [] → is_on_set rows ≡ true
set-of_none [] e = refl
set-of_none (row ∷ rows) e = cc

-- the nodes, whatever the numbers of the names are
module _ (place : List ℕ → ℕ) where
  abbrev pub node_of : NamedNode → NodeOf
  node_of n = record { reads = map place n.reads; cover = n.cover }

  abbrev pub CanBeWritten : NamedNode → Type 0
  CanBeWritten n = IsWritableNode (node_of n)

  node-writable : (line : TextLine) (behind : List TextLine) → IsCleanNode line behind → CanBeWritten (node_at line behind)
  node-writable line behind h =
      let pins = length-slice_range line.words 1 (length line.words - 1) (omega arith) in
      let reads = length-map (pins_of line) place in
      let few = h.few in
      record {
        pins = omega (arith, pins, reads, few);
        rows = rows-sized (width_of line) (rows_of behind) h.rows;
        set = set-of_none (rows_of behind);
      }

  nodes-here : (kind : LineKind) (line : TextLine) (behind : List TextLine) → IsCleanAt kind line behind → All CanBeWritten (nodes_at kind line behind)
  nodes-here Names line behind h = All-cons CanBeWritten (node_at line behind) [] (node-writable line behind h) (All-nil CanBeWritten)
  nodes-here PlanLine line behind h = All-nil CanBeWritten
  nodes-here Model line behind h = All-nil CanBeWritten
  nodes-here Inputs line behind h = All-nil CanBeWritten
  nodes-here Outputs line behind h = All-nil CanBeWritten
  nodes-here Latch line behind h = All-nil CanBeWritten
  nodes-here OtherDirective line behind h = All-nil CanBeWritten
  nodes-here Row line behind h = All-nil CanBeWritten

  pub nodes-writable : (lines : List TextLine) → AreClean lines → All CanBeWritten (nodes_of lines)
  nodes-writable [] h = All-nil CanBeWritten
  nodes-writable (line ∷ lines) h = All-append CanBeWritten (nodes_at (kind_of line) line lines) (nodes_of lines) (nodes-here (kind_of line) line lines h.0) (nodes-writable lines h.1)

-- texts without a repeat have different places
places-different : (driven texts : List (List ℕ)) → first_repeat texts ≡ None → All (λ t. has_text driven t ≡ true) texts → AreApart (map (place_of_text driven) texts)
places-different driven texts once there a b lt within same =
    let nets : List ℕ = map (place_of_text driven) texts in
    let sized : length nets ≡ length texts = length-map texts (place_of_text driven) in
    let back : names_of driven nets ≡ texts = texts_at_places driven texts there in
    let at : (i : ℕ) → i < length nets → text_at texts i ≡ text_at driven (get_or nets i 0) =
    λ i h. ap (λ ts. text_at ts i) (sym back) ∙ get_or-map (text_at driven) nets i 0 [] h in
    let numbering : IsNumbering texts = numbering-without_repeat [] texts once (record { distinct = λ i j h. absurd (omega arith) }) in
    let equal : text_at texts a ≡ text_at texts b = at a (omega (arith, lt, within)) ∙ (ap (text_at driven) same ∙ sym (at b within)) in
    let one : a ≡ b = numbering.distinct a b (omega (arith, lt, within, sized)) (omega (arith, within, sized)) equal in
    omega (arith, lt, one)

no-fault : (driven shown missing : Option (List ℕ)) (faults : List (Option NetError)) → first_fault (twice driven ∷ twice shown ∷ undriven missing ∷ faults) ≡ None
    → (shown ≡ None) × (missing ≡ None)
no-fault None None None faults e = (refl, refl)
no-fault None None (Some text) faults e = cc
no-fault None (Some text) missing faults e = cc
no-fault (Some text) shown missing faults e = cc

-- the outputs of a netlist without a fault are different
pub outputs-different : (N : Named) → fault_of N ≡ None → AreApart (circuit_of N).outputs
outputs-different N e =
    let none = no-fault (first_repeat (drivers N)) (first_repeat N.outputs) (first_missing (drivers N) (reads_of N)) (no_outputs N.outputs ∷ cycle N ∷ []) e in
    let shown : first_missing (drivers N) N.outputs ≡ None = driven-back (drivers N) (joined (map (λ n. n.reads) N.nodes) ++ map (λ l. l.reads) N.latches) N.outputs none.1 in
    places-different (drivers N) N.outputs none.0 (all_driven (drivers N) N.outputs shown)
