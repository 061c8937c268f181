-- A netlist that is read can be written.
use Rattle.std.proofs.Common.{◌≡◌, ◌≤◌, ℕ, Bool, true, false, if◌then◌else◌, List, [], ◌∷◌, codes, Option, Some, drop, get_or, length, refl, sym, subst, ◌∙◌, arith, None, All, nat_le}
use Rattle.std.specs.List.{list_all}
use Rattle.std.proofs.lemmas.Bool.{leb-true}
use Rattle.std.proofs.lemmas.List.Elements.{All-head, All-tail, All-drop, All-map, All-take, All-weaker}
use Rattle.std.proofs.lemmas.List.Sums.{AllPass-from_list_all}
use Rattle.tsc_net.specs.Named.{Named}
use Rattle.tsc_net.specs.NetlistOf.{NetlistOf, drivers, netlist_of}
use Rattle.tsc_net.specs.Names.{place_of_text}
use Rattle.tsc_text.specs.Bytes.{bad_line}
use Rattle.tsc_text.specs.Lines.{lines_of}
use Rattle.tsc_text.specs.TextLine.{TextLine, the_word}
use Rattle.tsc_text.specs.Written.{can_be_written, is_name, is_word, written}
use Rattle.tsc_text.specs.declared.section.Section.{Section}
use Rattle.tsc_text.proofs.AllowedWords.{HasAllowedWords, IsAllowed, lines_of-allowed}
use Rattle.tsc_text.proofs.ReadWords.{lines_of-written}
use Rattle.tsc_text.proofs.Written.{Both, both}
use Rattle.blif_read.specs.Denotes.{refusal}
use Rattle.tsc_text.specs.Section.{section_lines}
use Rattle.blif_read.specs.NamedText.{named_text, nodes_of, outputs_of}
use Rattle.blif_read.specs.Seen.{seen_of}
use Rattle.blif_read.specs.declared.kinds.Kind.{Kind}
use Rattle.blif_read.proofs.CleanLines.{are_clean}
use Rattle.blif_read.proofs.Counts.{AreFew, few_mapped, few_parts, many_nodes}
use Rattle.blif_read.proofs.NotRefused.{no_line_fault, no_net_fault}
use Rattle.blif_read.proofs.Scanned.{first_fault_is}
use Rattle.blif_read.proofs.ShortNames.{HasNames, IsShortName, short_model, short_names}
use Rattle.blif_read.specs.LineKind.{kind_of, kind_of_word, name_count}
use Rattle.blif_read.specs.Clocks.{clock_at, clock_text, control_word, edge_of, edge_word, first_latch, has_clock, is_latch}
use Rattle.blif_read.specs.declared.kinds.Kind.TheVariants.{Source, Registers, Netlist, AnyPlan, Unplanned}
use Rattle.blif_read.specs.declared.kinds.LineKind.TheVariants.{PlanLine}
use Rattle.fault_secure.specs.Circuit.{NodeOf}
use Rattle.blif_write.specs.Told.{IsTellable, IsToldClock, IsToldNode, IsWordName}
use Rattle.blif_write.specs.Writable.{IsGoodName, IsWritable, IsWritableNode}
use Rattle.blif_write.proofs.ReadNet.{node_of, nodes-writable, outputs-different}

-- a word that is a name, of bytes that a text may hold
abbrev IsTextName : List ℕ → Type 0
IsTextName word = (is_name word ≡ true) × IsAllowed word

-- the words of a line that is no plan line are such words
line-names : (line : TextLine) → can_be_written (written line) ≡ true → HasAllowedWords line → HasNames IsTextName line
line-names line h allowed e =
    let parts : Both (nat_le 1 (length line.words)) (list_all (is_word line.is_plan) line.words) = both _ _ h in
    let named : list_all (is_word false) line.words ≡ true = subst (λ plan. list_all (is_word plan) line.words ≡ true) e parts.right in
    let each = AllPass-from_list_all (is_word false) line.words named in
    λ k d w. (each k d w, allowed k d w)

text-names : (text : List ℕ) → bad_line text ≡ None → All (HasNames IsTextName) (lines_of text)
text-names text e =
    let each = AllPass-from_list_all (λ line. can_be_written (written line)) (lines_of text) (lines_of-written text) in
    let allowed = lines_of-allowed text e in
    λ k d w. line-names (get_or (lines_of text) k d) (each k d w) (allowed k d w)

section-names : (text : List ℕ) (section : Section) → bad_line text ≡ None → All (HasNames IsTextName) (section_lines (lines_of text) section)
section-names text section e =
    All-take (HasNames IsTextName) _ (drop section.first (lines_of text)) (All-drop (HasNames IsTextName) section.first (lines_of text) (text-names text e))

good : (name : List ℕ) → IsShortName IsTextName name → IsGoodName name
good name h = record { word = h.0.0; allowed = h.0.1; short = h.1 }

-- lines with such words, which aren't refused, denote a netlist that can be written, if it has few latches
lines-writable : (kind : Kind) (lines : List TextLine) → length (netlist_of (named_text lines)).circuit.latches ≤ 64 → All (HasNames IsTextName) lines → refusal kind lines ≡ None → IsWritable (netlist_of (named_text lines))
lines-writable kind lines latches names e =
    let N : Named = named_text lines in
    let clean = no_line_fault kind lines e in
    let few : AreFew kind (seen_of []) lines = few_parts kind lines clean in
    let model : IsShortName IsTextName (codes "model") = ((refl, refl), omega arith) in
    let place = place_of_text (drivers N) in
    record {
      model = good _ (short_model IsTextName kind lines (codes "model") names clean model);
      names = All-weaker (IsShortName IsTextName) IsGoodName good (drivers N) (short_names IsTextName kind lines names clean);
      inputs = omega (arith, few.inputs);
      outputs = few_mapped _ (outputs_of lines) 66 (omega (arith, few.outputs));
      latches = latches;
      nodes = few_mapped _ (nodes_of lines) 1048576 (omega (arith, few.nodes, many_nodes kind));
      different = outputs-different N (no_net_fault kind lines e);
      each_node = All-map IsWritableNode (node_of place) (nodes_of lines) (nodes-writable place lines (are_clean kind lines (seen_of []) (sym (first_fault_is kind [] lines) ∙ clean)));
    }

told-name : (name : List ℕ) → IsShortName IsTextName name → IsWordName name
told-name name h = record { word = h.0.0; allowed = h.0.1 }

told-node : (n : NodeOf) → IsWritableNode n → IsToldNode n
told-node n is = is.set

-- and one that a text tells, however many latches it has
lines-tellable : (kind : Kind) (lines : List TextLine) → All (HasNames IsTextName) lines → refusal kind lines ≡ None → IsTellable (netlist_of (named_text lines))
lines-tellable kind lines names e =
    let N : Named = named_text lines in
    let clean = no_line_fault kind lines e in
    let model : IsShortName IsTextName (codes "model") = ((refl, refl), omega arith) in
    let place = place_of_text (drivers N) in
    record {
      model = told-name _ (short_model IsTextName kind lines (codes "model") names clean model);
      names = All-weaker (IsShortName IsTextName) IsWordName told-name (drivers N) (short_names IsTextName kind lines names clean);
      each_node = All-weaker IsWritableNode IsToldNode told-node (netlist_of N).circuit.nodes
          (All-map IsWritableNode (node_of place) (nodes_of lines) (nodes-writable place lines (are_clean kind lines (seen_of []) (sym (first_fault_is kind [] lines) ∙ clean))));
    }

-- ---- the clock

-- a line of a latch is no plan line
latch-marked : (line : TextLine) → is_latch (kind_of line) ≡ true → line.is_plan ≡ false
latch-marked line e = by line.is_plan refl e
  where
    by : (b : Bool) → line.is_plan ≡ b → is_latch (if b then PlanLine else kind_of_word (the_word line 0)) ≡ true → line.is_plan ≡ false
    by true is latch = cc
    by false is latch = is

-- a line of a latch, whose words are such words
abbrev IsNamedLatch : TextLine → Type 0
IsNamedLatch line = HasNames IsTextName line × (is_latch (kind_of line) ≡ true)

-- the clock of such a line is a word
clock-told : (first : Option TextLine) → ((line : TextLine) → first ≡ Some line → IsNamedLatch line) → IsToldClock (clock_at first)
clock-told None h = tt
clock-told (Some line) h = by (has_clock line) refl
  where
    by : (b : Bool) → has_clock line ≡ b → IsToldClock (if b then Some (record { edge = edge_of (edge_word line); control = control_word line }) else None)
    by true has =
        let is = h line refl in
        let word : IsTextName (control_word line) = is.0 (latch-marked line is.1) 4 [] (omega (arith, leb-true 4 (name_count line) has)) in
        record { word = word.0; allowed = word.1 }
    by false none = tt

first-here : (here line : TextLine) (later : Option TextLine) (b : Bool) → is_latch (kind_of here) ≡ b → HasNames IsTextName here
    → (later ≡ Some line → IsNamedLatch line) → (if b then Some here else later) ≡ Some line → IsNamedLatch line
first-here here line later true latch names more is = let same : here ≡ line = cc in subst IsNamedLatch same (names, latch)
first-here here line later false none names more is = more is

first-of : (lines : List TextLine) → All (HasNames IsTextName) lines → (line : TextLine) → first_latch lines ≡ Some line → IsNamedLatch line
first-of [] names line e = cc
first-of (here ∷ lines) names line e =
    first-here here line (first_latch lines) (is_latch (kind_of here)) refl (All-head (HasNames IsTextName) here lines names)
    (first-of lines (All-tail (HasNames IsTextName) here lines names) line) e

lines-clocked : (kind : Kind) (lines : List TextLine) → All (HasNames IsTextName) lines → IsToldClock (clock_text kind lines)
lines-clocked Source lines names = tt
lines-clocked Registers lines names = clock-told (first_latch lines) (first-of lines names)
lines-clocked Netlist lines names = tt
lines-clocked AnyPlan lines names = clock-told (first_latch lines) (first-of lines names)
lines-clocked Unplanned lines names = tt

-- in a text of allowed bytes, what a section denotes that isn't refused is told by a text, with its clock
pub read-tellable : (text : List ℕ) (lines : List TextLine) (section : Section) (kind : Kind) (net : NetlistOf) → bad_line text ≡ None → lines ≡ lines_of text
    → refusal kind (section_lines lines section) ≡ None → net ≡ netlist_of (named_text (section_lines lines section))
    → IsTellable net × IsToldClock (clock_text kind (section_lines lines section))
read-tellable text lines section kind net allowed is sound denoted =
    let names : All (HasNames IsTextName) (section_lines lines section) =
    subst (λ all. All (HasNames IsTextName) (section_lines all section)) (sym is) (section-names text section allowed) in
    (subst IsTellable (sym denoted) (lines-tellable kind (section_lines lines section) names sound), lines-clocked kind (section_lines lines section) names)

-- in a text of allowed bytes, what a section denotes that isn't refused is writable
pub read-writable : (text : List ℕ) (lines : List TextLine) (section : Section) (kind : Kind) (net : NetlistOf) → length net.circuit.latches ≤ 64 → bad_line text ≡ None → lines ≡ lines_of text
    → refusal kind (section_lines lines section) ≡ None → net ≡ netlist_of (named_text (section_lines lines section)) → IsWritable net
read-writable text lines section kind net few allowed is sound denoted =
    let names : All (HasNames IsTextName) (section_lines lines section) =
    subst (λ all. All (HasNames IsTextName) (section_lines all section)) (sym is) (section-names text section allowed) in
    subst IsWritable (sym denoted) (lines-writable kind (section_lines lines section) (subst (λ (n : NetlistOf). length n.circuit.latches ≤ 64) denoted few) names sound)
