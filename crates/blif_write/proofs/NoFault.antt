-- No line of a layout is refused.
use Rattle.std.proofs.Common.{◌≡◌, ℕ, zero, suc, ◌+◌, ◌<◌, ◌≤◌, Bool, true, false, ◌&&◌, if◌then◌else◌, eqb, List, [], ◌∷◌, ◌++◌, codes, length, map, refl, sym, ap, ap₂, ◌∙◌, subst, arith, inl, inr, ◌⊎◌, Option, None, Some, eq-eqb}
use Rattle.std.specs.List.{flat_map, AllByRecursion as Each}
use Rattle.std.proofs.Math.Dec.{leb}
use Rattle.std.proofs.lemmas.Bool.{le-leb}
use Rattle.std.proofs.lemmas.Grind.{common_steps}
use Rattle.tsc_cover.specs.Cover.{Literal}
use Rattle.tsc_cover.specs.Text.{text_of_literals}
use Rattle.tsc_cover.proofs.Text.{is_row_text-text_of_literals, length-text_of_literals}
use Rattle.tsc_text.specs.TextLine.{TextLine, the_word}
use Rattle.tsc_text.specs.Written.{WrittenLine, numbered}
use Rattle.tsc_net.specs.Named.{Named, NamedLatch, NamedNode}
use Rattle.fault_secure.specs.declared.code.Code.{Code}
use Rattle.fault_secure.specs.declared.code.Code.TheVariants.{Parity, Berger, MOutOfN}
use Rattle.blif_read.specs.LineKind.{kind_of, pins_of, net_of, name_count, width_of}
use Rattle.blif_read.specs.Rows.{has_row_shape, is_bit_word, output_of}
use Rattle.blif_read.specs.Faults.{fault_of, names_fault, row_fault, latch_fault, latch_limit, limit, limit_in, first_of, is_long, is_mixed, has_init, plan_line_fault}
use Rattle.blif_read.specs.FirstFault.{fault_or, first_fault, first_fault_after}
use Rattle.blif_read.specs.PlanLines.{plan_kind, has_plan_shape, is_bits, is_code}
use Rattle.blif_read.specs.Seen.{seen_of, seen_behind, first_output, with_row}
use Rattle.blif_read.specs.declared.cause.Cause.TheVariants.{WordCount, RowShape, Mixed, LatchInit, PlanShape, Limit}
use Rattle.tsc_text.specs.declared.which.Which.{Which}
use Rattle.tsc_text.specs.declared.which.Which.TheVariants.{NameBytes, Inputs as InputCount, Outputs as OutputCount, Nodes as NodeCount, Pins as PinCount, Latches as LatchCount}
use Rattle.blif_read.specs.declared.kinds.Kind.{Kind}
use Rattle.blif_read.specs.declared.kinds.Kind.TheVariants.{Netlist}
use Rattle.blif_read.specs.declared.kinds.LineKind.{LineKind}
use Rattle.blif_read.specs.declared.kinds.LineKind.TheVariants.{PlanLine, Model, Inputs, Outputs, Names as NamesKind, Latch, Row}
use Rattle.blif_read.specs.declared.seen.OpenCover.{OpenCover}
use Rattle.blif_read.specs.declared.seen.Seen.{Seen}
use Rattle.blif_read.proofs.Scanned.{first_fault_is}
use Rattle.blif_write.specs.NamedPlan.{NamedPlan}
use Rattle.blif_write.specs.Layout.{model_line, inputs_line, outputs_line, bit_character, word_of_bits, code_word, code_line, group_line, check_line, state_line, check_lines, plan_lines, latch_line, names_line, row_line, row_lines, node_lines, section_lines}
use Rattle.blif_write.proofs.Good.{IsShort, LatchWith, LimitedNode, LimitedNet, GoodGroup, GoodChecks, ChecksOf, GoodPlan, NetCounts}
use Rattle.blif_write.proofs.LineKinds.{at, kind-row}
use Rattle.blif_write.proofs.ReadBack.{pins-read, net-read, count-read, width-read, tail-split}
use Rattle.tsc_text.proofs.AllowedTexts.{numbered-append}

-- these lines have no fault behind what was seen
abbrev pub Clean : Seen → List TextLine → Type 0
Clean seen lines = first_fault_after Netlist seen lines ≡ None

clean-line : (seen : Seen) (k : LineKind) (line : TextLine) (lines : List TextLine) → kind_of line ≡ k → fault_of Netlist seen k line ≡ None → Clean (seen_behind seen k line) lines → Clean seen (line ∷ lines)
clean-line seen k line lines e f h =
    ap (λ j. fault_or (fault_of Netlist seen j line) line (first_fault_after Netlist (seen_behind seen j line) lines)) e
    ∙ ap (λ fault. fault_or fault line (first_fault_after Netlist (seen_behind seen k line) lines)) f
    ∙ h

-- names within their limits
not-long : (name : List ℕ) → IsShort name → is_long name ≡ false
not-long name h = grind (arith, common_steps)

limit_in-none : (which : Which) (most count : ℕ) (names : List (List ℕ)) → Each IsShort names → count + length names ≤ most → limit_in which most count names ≡ None
limit_in-none which most count [] h few = refl
limit_in-none which most count (name ∷ names) h few =
    let below : leb most count ≡ false = low most count (omega arith) in
    ap₂ (λ (a b : Bool). if a then Some NameBytes else (if b then Some which else limit_in which most (count + 1) names)) (not-long name h.0) below
    ∙ limit_in-none which most (count + 1) names h.1 (omega arith)
  where
    low : (a b : ℕ) → b < a → leb a b ≡ false
    low a b h = grind (arith, common_steps)

one-name : (name : List ℕ) → IsShort name → Each IsShort (name ∷ [])
one-name name h = (h, tt)

-- rows
bit-is : (b : Bool) → is_bit_word (bit_character b ∷ []) ≡ true
bit-is true = refl
bit-is false = refl

row-shape : (on : Bool) (row : List Literal) (width : ℕ) → length row ≡ width → has_row_shape width (row_line on row).words ≡ true
row-shape on [] width e = ap₂ (λ x y. x && y) (eq-eqb width 0 (sym e)) (bit-is on)
row-shape on (l ∷ row) width e =
    let long : length (text_of_literals (l ∷ row)) ≡ width = length-text_of_literals (l ∷ row) ∙ e in
    let some : suc zero ≤ width = omega arith in
    ap₂ (λ x y. x && y)
    (ap₂ (λ x y. x && y) (ap₂ (λ x y. x && y) (le-leb 1 width some) (eq-eqb (length (text_of_literals (l ∷ row))) width long)) (is_row_text-text_of_literals (l ∷ row)))
    (bit-is on)

output-is : (on : Bool) (row : List Literal) (n : ℕ) → output_of (at n (row_line on row)) ≡ on
output-is true [] n = refl
output-is false [] n = refl
output-is true (l ∷ row) n = refl
output-is false (l ∷ row) n = refl

abbrev Begun : Option Bool → Bool → Type 0
Begun first on = (first ≡ None) ⊎ (first ≡ Some on)

not-mixed : (first : Option Bool) (on : Bool) → Begun first on → is_mixed first on ≡ false
not-mixed first on (inl e) = ap (λ f. is_mixed f on) e
not-mixed first true (inr e) = ap (λ f. is_mixed f true) e
not-mixed first false (inr e) = ap (λ f. is_mixed f false) e

row-clean : (on : Bool) (row : List Literal) (width : ℕ) (first : Option Bool) (cover : Option OpenCover) (n : ℕ) → length row ≡ width → cover ≡ Some (record { width = width; first = first }) → Begun first on → row_fault cover (at n (row_line on row)) ≡ None
row-clean on row width first cover n long open_cover begun =
    let line : TextLine = at n (row_line on row) in
    ap (λ c. row_fault c line) open_cover
    ∙ ap₂ (λ (a b : Bool). if a then (if b then Some Mixed else None) else Some RowShape) (row-shape on row width long) (ap (is_mixed first) (output-is on row n) ∙ not-mixed first on begun)

begun-after : (first : Option Bool) (on : Bool) → Begun first on → first_output first on ≡ Some on
begun-after first on (inl e) = ap (λ f. first_output f on) e
begun-after first on (inr e) = ap (λ f. first_output f on) e

cover-behind : (cover : Option OpenCover) (width : ℕ) (first : Option Bool) (on output : Bool) → cover ≡ Some (record { width = width; first = first }) → output ≡ on → Begun first on → with_row cover output ≡ Some (record { width = width; first = Some on })
cover-behind cover width first on output e o begun =
    ap₂ with_row e o
    ∙ ap (λ (f : Option Bool). Some (record { width = width; first = f })) (begun-after first on begun)

-- rows behind their `.names` have no fault, whatever is to be said of the lines, where a line without a fault keeps it
module _ (kind : Kind) (C : Seen → List TextLine → Type 0)
    (step : (seen : Seen) (k : LineKind) (line : TextLine) (lines : List TextLine) → kind_of line ≡ k → fault_of kind seen k line ≡ None → C (seen_behind seen k line) lines → C seen (line ∷ lines)) where
  pub rows-pass : (on : Bool) (rows : List (List Literal)) (width : ℕ) → Each (λ row. length row ≡ width) rows → (seen : Seen) (first : Option Bool) → seen.cover ≡ Some (record { width = width; first = first }) → Begun first on → (n : ℕ) (rest : List TextLine)
      → ((s : Seen) → s.nodes ≡ seen.nodes → C s rest) → C seen (numbered n (map (row_line on) rows) ++ rest)
  rows-pass on [] width h seen first open_cover begun n rest go = go seen refl
  rows-pass on (row ∷ rows) width h seen first open_cover begun n rest go =
      let line : TextLine = at n (row_line on row) in
      step seen Row line (numbered (n + 1) (map (row_line on) rows) ++ rest) (kind-row on row)
      (row-clean on row width first seen.cover n h.0 open_cover begun)
      (rows-pass on rows width h.1 (seen_behind seen Row line) (Some on)
      (cover-behind seen.cover width first on (output_of line) open_cover (output-is on row n) begun) (inr refl) (n + 1) rest
      (λ s e. let same : s.nodes ≡ seen.nodes = omega arith in go s same))

-- nodes
pub not-zero : (m k : ℕ) → m ≡ suc k → eqb m 0 ≡ false
not-zero m k e = grind (arith, common_steps)

names-clean : (x : NamedNode) → LimitedNode x → (nodes n : ℕ) → nodes < 1048576 → (seen : Seen) → seen.nodes ≡ nodes → names_fault Netlist seen (at n (names_line x)) ≡ None
names-clean x h nodes n few seen e =
    let count : name_count (at n (names_line x)) ≡ suc (length x.reads) = count-read x n in
    let pins : limit_in PinCount 64 0 (pins_of (at n (names_line x))) ≡ None = ap (limit_in PinCount 64 0) (pins-read x n) ∙ limit_in-none PinCount 64 0 x.reads h.reads (let pins = h.cover.0 in omega arith) in
    let net : limit_in NodeCount 1048576 seen.nodes (net_of (at n (names_line x)) ∷ []) ≡ None = ap₂ (λ m name. limit_in NodeCount 1048576 m (name ∷ [])) e (net-read x n) ∙ limit_in-none NodeCount 1048576 nodes (x.out ∷ []) (one-name x.out h.out) (omega arith) in
    ap (λ (b : Bool). if b then Some WordCount else limit (first_of (limit_in PinCount 64 0 (pins_of (at n (names_line x)))) (limit_in NodeCount 1048576 seen.nodes (net_of (at n (names_line x)) ∷ [])))) (not-zero (name_count (at n (names_line x))) (length x.reads) count)
    ∙ ap₂ (λ (a b : Option Which). limit (first_of a b)) pins net

clean-nodes : (nodes : List NamedNode) → Each LimitedNode nodes → (seen : Seen) (n : ℕ) → seen.nodes + length nodes ≤ 1048576 → Clean seen (numbered n (flat_map node_lines nodes))
clean-nodes [] h seen n few = refl
clean-nodes (x ∷ nodes) h seen n few =
    let line : TextLine = at n (names_line x) in
    let rows : List WrittenLine = row_lines x.cover in
    let rest : List TextLine = numbered (n + 1 + length rows) (flat_map node_lines nodes) in
    let wide : width_of line ≡ x.cover.width = width-read x n ∙ sym h.0.cover.1 in
    let P : List TextLine → Type 0 = λ lines. Clean seen (line ∷ lines) in
    subst P (sym (numbered-append (n + 1) rows (flat_map node_lines nodes)))
    (clean-line seen NamesKind line (numbered (n + 1) rows ++ rest) refl
    (names-clean x h.0 seen.nodes n (omega arith) seen refl)
    (rows-pass Netlist Clean clean-line x.cover.on x.cover.rows x.cover.width h.0.cover.2 (seen_behind seen NamesKind line) None
    (ap (λ (w : ℕ). Some (record { width = w; first = None })) wide) (inl refl) (n + 1) rest
    (λ s e. clean-nodes nodes h.1 s (n + 1 + length rows) (let same : s.nodes ≡ seen.nodes + 1 = e in omega arith))))

-- latches
pub init-is : (l : NamedLatch) (n : ℕ) → has_init (at n (latch_line l)) ≡ true
init-is l n = bit-is l.init

latch-clean : (l : NamedLatch) → LatchWith IsShort l → (n : ℕ) (seen : Seen) → seen.latches < 64 → latch_fault Netlist seen (at n (latch_line l)) ≡ None
latch-clean l h n seen few =
    ap (λ (b : Bool). if b then limit (latch_limit Netlist seen (at n (latch_line l))) else Some LatchInit) (init-is l n)
    ∙ ap (λ (b : Bool). limit (if b then Some NameBytes else limit_in LatchCount 64 seen.latches (l.out ∷ []))) (not-long l.reads h.reads)
    ∙ ap limit (limit_in-none LatchCount 64 seen.latches (l.out ∷ []) (one-name l.out h.out) (omega arith))

clean-latches : (latches : List NamedLatch) → Each (LatchWith IsShort) latches → (seen : Seen) → seen.latches + length latches ≤ 64 → (n : ℕ) (rest : List TextLine)
    → ((s : Seen) → s.nodes ≡ seen.nodes → Clean s rest) → Clean seen (numbered n (map latch_line latches) ++ rest)
clean-latches [] h seen few n rest go = go seen refl
clean-latches (l ∷ latches) h seen few n rest go =
    let line : TextLine = at n (latch_line l) in
    clean-line seen Latch line (numbered (n + 1) (map latch_line latches) ++ rest) refl
    (latch-clean l h.0 n seen (omega arith))
    (clean-latches latches h.1 (seen_behind seen Latch line) (omega arith) (n + 1) rest
    (λ s e. let same : s.nodes ≡ seen.nodes = omega arith in go s same))

-- the plan
record IsFine (has_plan : Bool) (w : WrittenLine) : Type 0 where
  kind : kind_of (at 0 w) ≡ PlanLine
  shape : (n : ℕ) → has_plan_shape (plan_kind (the_word (at n w) 0)) has_plan (at n w) ≡ true

plan-clean : (w : WrittenLine) (n : ℕ) (seen : Seen) → IsFine seen.has_plan w → plan_line_fault Netlist seen (at n w) ≡ None
plan-clean w n seen h = ap (λ (b : Bool). if b then None else Some PlanShape) (h.shape n)

clean-plan : (ws : List WrittenLine) → Each (IsFine true) ws → (seen : Seen) → seen.has_plan ≡ true → (n : ℕ) (rest : List TextLine)
    → ((s : Seen) → s.latches ≡ seen.latches → s.nodes ≡ seen.nodes → Clean s rest) → Clean seen (numbered n ws ++ rest)
clean-plan [] h seen planned n rest go = go seen refl refl
clean-plan (w ∷ ws) h seen planned n rest go =
    let Fine : Bool → Type 0 = λ b. IsFine b w in
    clean-line seen PlanLine (at n w) (numbered (n + 1) ws ++ rest) h.0.kind
    (plan-clean w n seen (subst Fine (sym planned) h.0))
    (clean-plan ws h.1 (seen_behind seen PlanLine (at n w)) refl (n + 1) rest
    (λ s e f. let latches : s.latches ≡ seen.latches = omega arith in let nodes : s.nodes ≡ seen.nodes = omega arith in go s latches nodes))

Fine-map : {A : Type 0} (f : A → WrittenLine) (P : A → Type 0) (xs : List A) → ((x : A) → P x → IsFine true (f x)) → Each P xs → Each (IsFine true) (map f xs)
Fine-map f P [] each h = tt
Fine-map f P (x ∷ xs) each h = (each x h.0, Fine-map f P xs each h.1)

Fine-append : (xs ys : List WrittenLine) → Each (IsFine true) xs → Each (IsFine true) ys → Each (IsFine true) (xs ++ ys)
Fine-append [] ys h k = k
Fine-append (x ∷ xs) ys h k = (h.0, Fine-append xs ys h.1 k)

many-words : (least : ℕ) (word : List ℕ) (names : List (List ℕ)) → least ≤ length names → leb (least + 1) (length (word ∷ names)) ≡ true
many-words least word names h = le-leb (least + 1) (length (word ∷ names)) (omega arith)

group-fine : (names : List (List ℕ)) → GoodGroup names → IsFine true (group_line names)
group-fine names h = record { kind = refl; shape = λ n. many-words 2 (codes "group") names h.some }

check-fine : (names : List (List ℕ)) → GoodChecks names → IsFine true (check_line names)
check-fine names h = record { kind = refl; shape = λ n. many-words 1 (codes "check") names h.some }

bits-are : (bits : List Bool) → is_bits (word_of_bits bits) ≡ true
bits-are [] = refl
bits-are (true ∷ bits) = bits-are bits
bits-are (false ∷ bits) = bits-are bits

state-fine : (bits : List Bool) → 1 ≤ length bits → IsFine true (state_line bits)
state-fine bits h = record { kind = refl; shape = λ n. bits-are bits }

checks-fine : (code : Code) (P : NamedPlan) → ChecksOf code P → Each (IsFine true) (check_lines code P)
checks-fine Parity P h = Fine-map group_line GoodGroup P.groups group-fine h
checks-fine Berger P h = (check-fine P.checks h, tt)
checks-fine MOutOfN P h = (check-fine P.checks h, tt)

code-word-is : (code : Code) → is_code (code_word code) ≡ true
code-word-is Parity = refl
code-word-is Berger = refl
code-word-is MOutOfN = refl

code-fine : (version : ℕ) (code : Code) → (version ≡ 1) ⊎ (version ≡ 2) → IsFine false (code_line version code)
code-fine version code (inl e) = let Fine : ℕ → Type 0 = λ v. IsFine false (code_line v code) in subst Fine (sym e) (record { kind = refl; shape = λ n. code-word-is code })
code-fine version code (inr e) = let Fine : ℕ → Type 0 = λ v. IsFine false (code_line v code) in subst Fine (sym e) (record { kind = refl; shape = λ n. code-word-is code })

-- all lines before `.end`
abbrev pub at_first : Seen
at_first = seen_of []

pub section-clean : (N : Named) (P : NamedPlan) → LimitedNet N → NetCounts N → GoodPlan P → first_fault Netlist (numbered 1 (section_lines N P)) ≡ None
section-clean N P h counts p =
    let checks : List WrittenLine = check_lines P.code P ++ map state_line P.states in
    let tail : List WrittenLine = (plan_lines P ++ map latch_line N.latches) ++ flat_map node_lines N.nodes in
    let k : ℕ = 4 + length (plan_lines P ++ map latch_line N.latches) in
    let nodes : List TextLine = numbered k (flat_map node_lines N.nodes) in
    let latches : List TextLine = numbered (4 + length (plan_lines P)) (map latch_line N.latches) ++ nodes in
    let model : TextLine = at 1 (model_line N.model) in
    let inputs : TextLine = at 2 (inputs_line N.inputs) in
    let outputs : TextLine = at 3 (outputs_line N.outputs) in
    let one : Seen = seen_behind at_first Model model in
    let two : Seen = seen_behind one Inputs inputs in
    let three : Seen = seen_behind two Outputs outputs in
    let P4 : List TextLine → Type 0 = λ lines. Clean three lines in
    let behind : Clean three (numbered 4 tail) = subst P4 (sym (tail-split N (plan_lines P)))
    (clean-line three PlanLine (at 4 (code_line P.version P.code)) (numbered 5 checks ++ latches) refl
    (plan-clean (code_line P.version P.code) 4 three (code-fine P.version P.code p.version))
    (clean-plan checks (Fine-append (check_lines P.code P) (map state_line P.states) (checks-fine P.code P p.checks) (Fine-map state_line (λ bits. 1 ≤ length bits) P.states state-fine p.states))
    (seen_behind three PlanLine (at 4 (code_line P.version P.code))) refl 5 latches
    (λ s e f. clean-latches N.latches h.latches s (let few = counts.latches in omega arith) (4 + length (plan_lines P)) nodes
    (λ t g. clean-nodes N.nodes h.nodes t k (let few = counts.nodes in omega arith))))) in
    first_fault_is Netlist [] (numbered 1 (section_lines N P))
    ∙ clean-line at_first Model model (inputs ∷ outputs ∷ numbered 4 tail) refl (ap (λ (b : Bool). if b then Some (Limit NameBytes) else None) (not-long N.model h.model))
    (clean-line one Inputs inputs (outputs ∷ numbered 4 tail) refl (ap limit (limit_in-none InputCount 1024 0 N.inputs h.inputs (let few = counts.inputs in omega arith)))
    (clean-line two Outputs outputs (numbered 4 tail) refl (ap limit (limit_in-none OutputCount 66 0 N.outputs h.outputs (let few = counts.outputs in omega arith)))
    behind))
