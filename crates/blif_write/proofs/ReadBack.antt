-- The lines of a layout denote its netlist.
use Rattle.std.proofs.Common.{◌≡◌, ℕ, suc, ◌+◌, ◌-◌, Bool, true, false, List, [], ◌∷◌, ◌++◌, codes, length, map, take, get_or, refl, sym, ap, ap₂, ◌∙◌, arith, append-nil, append_assoc, length-append}
use Rattle.std.specs.Str.{bytes_eq}
use Rattle.std.specs.List.{flat_map, AllByRecursion as Each}
use Rattle.std.proofs.lemmas.List.{take_at}
use Rattle.tsc_cover.specs.Cover.{Literal, CoverTable}
use Rattle.tsc_cover.specs.Text.{literals_of_text}
use Rattle.tsc_cover.proofs.Text.{literals_of_text-text_of_literals}
use Rattle.tsc_text.specs.TextLine.{TextLine}
use Rattle.tsc_text.specs.Written.{WrittenLine, numbered}
use Rattle.tsc_net.specs.Named.{Named, NamedLatch, NamedNode}
use Rattle.blif_read.specs.LineKind.{pins_of, net_of, width_of, name_count}
use Rattle.blif_read.specs.Rows.{rows_of, rows_at, cover_with, is_on_set, input_of}
use Rattle.blif_read.specs.NamedText.{named_text, model_or, inputs_of, outputs_of, latches_of, latch_at, nodes_of, node_at}
use Rattle.blif_write.specs.Layout.{bit_character, clocked_latch_line, latch_line, names_line, row_line, row_lines, node_lines, clocked_section}
use Rattle.blif_write.proofs.Good.{GoodNode, GoodNet}
use Rattle.blif_write.proofs.LineKinds.{at, AreKinds, is_body, is_no_latch, is_no_node, AreKinds-append, AreKinds-map, inputs_of-body, outputs_of-body, model_or-body, latches_of-none, nodes_of-none, kind-row, kinds-plan, kinds-rows, kinds-nodes}
use Rattle.blif_read.proofs.PlanMade.{get_or-last}
use Rattle.tsc_text.proofs.AllowedTexts.{numbered-append}

-- the rows up to the next directive
rows_of-rows : (on : Bool) (rows : List (List Literal)) (n : ℕ) (rest : List TextLine) → rows_of rest ≡ [] → rows_of (numbered n (map (row_line on) rows) ++ rest) ≡ numbered n (map (row_line on) rows)
rows_of-rows on [] n rest h = h
rows_of-rows on (row ∷ rows) n rest h =
    let line = at n (row_line on row) in
    ap (λ k. rows_at k line (rows_of (numbered (n + 1) (map (row_line on) rows) ++ rest))) (kind-row on row)
    ∙ ap (λ lines. line ∷ lines) (rows_of-rows on rows (n + 1) rest h)

rows_of-nodes : (n : ℕ) (nodes : List NamedNode) → rows_of (numbered n (flat_map node_lines nodes)) ≡ []
rows_of-nodes n [] = refl
rows_of-nodes n (x ∷ nodes) = refl

-- a row, and the set that it is of
input-read : (on : Bool) (row : List Literal) → literals_of_text (input_of (row_line on row).words) ≡ row
input-read on [] = refl
input-read on (l ∷ row) = literals_of_text-text_of_literals (l ∷ row)

inputs-read : (on : Bool) (rows : List (List Literal)) (n : ℕ) → map (λ row. literals_of_text (input_of row.words)) (numbered n (map (row_line on) rows)) ≡ rows
inputs-read on [] n = refl
inputs-read on (row ∷ rows) n = ap₂ (λ x xs. x ∷ xs) (input-read on row) (inputs-read on rows (n + 1))

set-read : (on : Bool) (rows : List (List Literal)) (n : ℕ) → (rows ≡ [] → on ≡ true) → is_on_set (numbered n (map (row_line on) rows)) ≡ on
set-read on [] n h = sym (h refl)
set-read true ([] ∷ rows) n h = refl
set-read false ([] ∷ rows) n h = refl
set-read true ((l ∷ row) ∷ rows) n h = refl
set-read false ((l ∷ row) ∷ rows) n h = refl

cover-read : (c : CoverTable) (width n : ℕ) → width ≡ c.width → (c.rows ≡ [] → c.on ≡ true) → cover_with width (numbered n (row_lines c)) ≡ c
cover-read c width n e h =
    ap (λ w. cover_with w (numbered n (row_lines c))) e
    ∙ ap₂ (λ (on : Bool) (rows : List (List Literal)). record { width = c.width; on = on; rows = rows }) (set-read c.on c.rows n h) (inputs-read c.on c.rows n)

abbrev node-with : List (List ℕ) → List ℕ → CoverTable → NamedNode
node-with reads out cover = record { reads = reads; out = out; cover = cover }

pub count-read : (x : NamedNode) (n : ℕ) → name_count (at n (names_line x)) ≡ suc (length x.reads)
count-read x n = let count = length-append x.reads (x.out ∷ []) in omega arith

pub width-read : (x : NamedNode) (n : ℕ) → width_of (at n (names_line x)) ≡ length x.reads
width-read x n = let count = length-append x.reads (x.out ∷ []) in omega arith

pub pins-read : (x : NamedNode) (n : ℕ) → pins_of (at n (names_line x)) ≡ x.reads
pins-read x n =
    let count = length-append x.reads (x.out ∷ []) in
    let pins : length (at n (names_line x)).words - 1 - 1 ≡ length x.reads = omega arith in
    ap (λ m. take m (x.reads ++ x.out ∷ [])) pins ∙ take_at x.reads (x.out ∷ []) (length x.reads) refl

pub net-read : (x : NamedNode) (n : ℕ) → net_of (at n (names_line x)) ≡ x.out
net-read x n = ap (λ m. get_or (at n (names_line x)).words m []) (count-read x n) ∙ get_or-last x.reads x.out

node-read : (x : NamedNode) → GoodNode x → (n : ℕ) (behind : List TextLine) → rows_of behind ≡ numbered (n + 1) (row_lines x.cover) → node_at (at n (names_line x)) behind ≡ x
node-read x h n behind e =
    let line : TextLine = at n (names_line x) in
    let cover : cover_with (width_of line) (rows_of behind) ≡ x.cover =
    ap (cover_with (width_of line)) e ∙ cover-read x.cover (width_of line) (n + 1) (width-read x n ∙ sym h.cover.0) h.cover.1 in
    ap₂ (λ (r : List (List ℕ)) (o : List ℕ). node-with r o (cover_with (width_of line) (rows_of behind))) (pins-read x n) (net-read x n)
    ∙ ap (node-with x.reads x.out) cover

nodes-read : (nodes : List NamedNode) → Each GoodNode nodes → (n : ℕ) → nodes_of (numbered n (flat_map node_lines nodes)) ≡ nodes
nodes-read [] h n = refl
nodes-read (x ∷ nodes) h n =
    let rows : List WrittenLine = row_lines x.cover in
    let rest : List TextLine = numbered (n + 1 + length rows) (flat_map node_lines nodes) in
    let split = numbered-append (n + 1) rows (flat_map node_lines nodes) in
    let here = rows_of-rows x.cover.on x.cover.rows (n + 1) rest (rows_of-nodes (n + 1 + length rows) nodes) in
    ap (λ behind. node_at (at n (names_line x)) behind ∷ nodes_of behind) split
    ∙ ap₂ (λ y ys. y ∷ ys) (node-read x h.0 n (numbered (n + 1) rows ++ rest) here)
    (nodes_of-none (n + 1) rows rest (kinds-rows is_no_node refl x.cover.on x.cover.rows) ∙ nodes-read nodes h.1 (n + 1 + length rows))

-- the latches
latch-read : (clock : List (List ℕ)) (l : NamedLatch) (n : ℕ) → latch_at (at n (clocked_latch_line clock l)) ≡ l
latch-read clock l n =
    let init : List ℕ = bit_character l.init ∷ [] in
    let words : List (List ℕ) = (at n (clocked_latch_line clock l)).words in
    let count = length-append clock (init ∷ []) in
    let last : length words - 1 ≡ length (codes ".latch" ∷ l.reads ∷ l.out ∷ clock) = omega arith in
    let word : get_or words (length words - 1) [] ≡ init = ap (λ m. get_or words m []) last ∙ get_or-last (codes ".latch" ∷ l.reads ∷ l.out ∷ clock) init in
    ap (λ (b : Bool). record { reads = l.reads; out = l.out; init = b }) (ap (λ w. bytes_eq w (codes "1")) word ∙ init-read l.init)
  where
    init-read : (b : Bool) → bytes_eq (bit_character b ∷ []) (codes "1") ≡ b
    init-read true = refl
    init-read false = refl

latches-read : (clock : List (List ℕ)) (latches : List NamedLatch) (n : ℕ) (rest : List TextLine) → latches_of (numbered n (map (clocked_latch_line clock) latches) ++ rest) ≡ latches ++ latches_of rest
latches-read clock [] n rest = refl
latches-read clock (l ∷ latches) n rest = ap₂ (λ x xs. x ∷ xs) (latch-read clock l n) (latches-read clock latches (n + 1) rest)

-- what stands after the first three lines
abbrev pub clocked-tail : List (List ℕ) → Named → List WrittenLine → List WrittenLine
clocked-tail clock N plan = (plan ++ map (clocked_latch_line clock) N.latches) ++ flat_map node_lines N.nodes

abbrev pub tail : Named → List WrittenLine → List WrittenLine
tail N plan = clocked-tail [] N plan

tail-body : (clock : List (List ℕ)) (N : Named) (plan : List WrittenLine) → Each (λ w. w.is_plan ≡ true) plan → AreKinds is_body (clocked-tail clock N plan)
tail-body clock N plan h =
    let latches : List WrittenLine = map (clocked_latch_line clock) N.latches in
    AreKinds-append is_body (plan ++ latches) (flat_map node_lines N.nodes)
    (AreKinds-append is_body plan latches (kinds-plan is_body refl plan h) (AreKinds-map is_body (clocked_latch_line clock) N.latches (λ _. refl)))
    (kinds-nodes is_body refl refl N.nodes)

-- the three parts of it
pub clocked-split : (clock : List (List ℕ)) (N : Named) (plan : List WrittenLine) → numbered 4 (clocked-tail clock N plan)
    ≡ numbered 4 plan ++ (numbered (4 + length plan) (map (clocked_latch_line clock) N.latches) ++ numbered (4 + length (plan ++ map (clocked_latch_line clock) N.latches)) (flat_map node_lines N.nodes))
clocked-split clock N plan =
    let latches : List WrittenLine = map (clocked_latch_line clock) N.latches in
    let nodes : List TextLine = numbered (4 + length (plan ++ latches)) (flat_map node_lines N.nodes) in
    numbered-append 4 (plan ++ latches) (flat_map node_lines N.nodes)
    ∙ ap (λ lines. lines ++ nodes) (numbered-append 4 plan latches)
    ∙ append_assoc (numbered 4 plan) (numbered (4 + length plan) latches) nodes

pub tail-split : (N : Named) (plan : List WrittenLine) → numbered 4 (tail N plan)
    ≡ numbered 4 plan ++ (numbered (4 + length plan) (map latch_line N.latches) ++ numbered (4 + length (plan ++ map latch_line N.latches)) (flat_map node_lines N.nodes))
tail-split N plan = clocked-split [] N plan

nodes-no-latch : (n : ℕ) (nodes : List NamedNode) → latches_of (numbered n (flat_map node_lines nodes)) ≡ []
nodes-no-latch n nodes = sym (ap latches_of (append-nil (numbered n (flat_map node_lines nodes))))
    ∙ latches_of-none n (flat_map node_lines nodes) [] (kinds-nodes is_no_latch refl refl nodes)

tail-latches : (clock : List (List ℕ)) (N : Named) (plan : List WrittenLine) → Each (λ w. w.is_plan ≡ true) plan → latches_of (numbered 4 (clocked-tail clock N plan)) ≡ N.latches
tail-latches clock N plan h =
    let latches : List WrittenLine = map (clocked_latch_line clock) N.latches in
    let m : ℕ = 4 + length plan in
    let k : ℕ = 4 + length (plan ++ latches) in
    let nodes : List TextLine = numbered k (flat_map node_lines N.nodes) in
    ap latches_of (clocked-split clock N plan)
    ∙ latches_of-none 4 plan (numbered m latches ++ nodes) (kinds-plan is_no_latch refl plan h)
    ∙ latches-read clock N.latches m nodes
    ∙ ap (λ latches. N.latches ++ latches) (nodes-no-latch k N.nodes)
    ∙ append-nil N.latches

tail-nodes : (clock : List (List ℕ)) (N : Named) (plan : List WrittenLine) → Each (λ w. w.is_plan ≡ true) plan → GoodNet N → nodes_of (numbered 4 (clocked-tail clock N plan)) ≡ N.nodes
tail-nodes clock N plan h good =
    let latches : List WrittenLine = map (clocked_latch_line clock) N.latches in
    let m : ℕ = 4 + length plan in
    let k : ℕ = 4 + length (plan ++ latches) in
    let nodes : List TextLine = numbered k (flat_map node_lines N.nodes) in
    ap nodes_of (clocked-split clock N plan)
    ∙ nodes_of-none 4 plan (numbered m latches ++ nodes) (kinds-plan is_no_node refl plan h)
    ∙ nodes_of-none m latches nodes (AreKinds-map is_no_node (clocked_latch_line clock) N.latches (λ _. refl))
    ∙ nodes-read N.nodes good.nodes k

abbrev named-with : List ℕ → List (List ℕ) → List (List ℕ) → List NamedLatch → List NamedNode → Named
named-with model inputs outputs latches nodes = record { model = model; inputs = inputs; outputs = outputs; latches = latches; nodes = nodes }

-- the lines before `.end` denote the netlist
pub named-read : (clock : List (List ℕ)) (N : Named) (plan : List WrittenLine) → Each (λ w. w.is_plan ≡ true) plan → GoodNet N → named_text (numbered 1 (clocked_section clock N plan)) ≡ N
named-read clock N plan h good =
    let rest : List WrittenLine = clocked-tail clock N plan in
    let lines : List TextLine = numbered 4 rest in
    let body : AreKinds is_body rest = tail-body clock N plan h in
    let model : model_or N.model lines ≡ N.model = model_or-body N.model 4 rest body in
    let inputs : N.inputs ++ inputs_of lines ≡ N.inputs = ap (λ more. N.inputs ++ more) (inputs_of-body 4 rest body) ∙ append-nil N.inputs in
    let outputs : N.outputs ++ outputs_of lines ≡ N.outputs = ap (λ more. N.outputs ++ more) (outputs_of-body 4 rest body) ∙ append-nil N.outputs in
    ap₂ (λ m i. named-with m i (N.outputs ++ outputs_of lines) (latches_of lines) (nodes_of lines)) model inputs
    ∙ ap₂ (λ o l. named-with N.model N.inputs o l (nodes_of lines)) outputs (tail-latches clock N plan h)
    ∙ ap (λ n. named-with N.model N.inputs N.outputs N.latches n) (tail-nodes clock N plan h good)
