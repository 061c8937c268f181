-- Each byte of a written netlist may stand in a text.
use Rattle.std.proofs.Common.{◌≡◌, ℕ, Bool, true, false, cond, List, [], ◌∷◌, ◌++◌, ◌≤◌, codes, length, map, refl, ap, inl, inr, ◌⊎◌, None}
use Rattle.std.specs.List.{list_all, flat_map, join_with_byte, AllByRecursion as Each}
use Rattle.tsc_cover.specs.Cover.{Literal, Free, Wants}
use Rattle.tsc_cover.specs.Text.{text_of_literals}
use Rattle.tsc_text.specs.Bytes.{is_allowed, bad_line}
use Rattle.tsc_text.specs.Lines.{ends_in}
use Rattle.tsc_text.specs.Written.{WrittenLine, kept_apart, plan_mark, line_text, text_of}
use Rattle.tsc_text.proofs.AllowedWords.{IsAllowed}
use Rattle.fault_secure.specs.declared.code.Code.{Code}
use Rattle.fault_secure.specs.declared.code.Code.TheVariants.{Parity, Berger, MOutOfN}
use Rattle.tsc_net.specs.Named.{Named, NamedLatch, NamedNode}
use Rattle.blif_write.specs.NamedPlan.{NamedPlan}
use Rattle.blif_write.specs.Layout.{bit_character, word_of_bits, version_word, code_word, code_line, group_line, state_line, check_lines, plan_lines, clocked_latch_line, row_line, node_lines, head_lines, end_line, clocked_layout}
use Rattle.blif_write.proofs.Good.{Names, GoodLatch, GoodNode, GoodNet, GoodGroup, ChecksOf, GoodPlan}
use Rattle.tsc_text.proofs.AllowedTexts.{IsAllowed-append, bad_line_from-none}

-- each word fits
abbrev pub WordsFit : List (List ℕ) → Type 0
WordsFit words = Each IsAllowed words

abbrev pub LineFits : WrittenLine → Type 0
LineFits w = WordsFit w.words

joined-fit : (words : List (List ℕ)) → WordsFit words → IsAllowed (join_with_byte 32 words)
joined-fit [] h = refl
joined-fit (w ∷ []) h = h.0
joined-fit (w ∷ v ∷ words) h = IsAllowed-append w (32 ∷ join_with_byte 32 (v ∷ words)) h.0 (joined-fit (v ∷ words) h.1)

kept-fit : (ends : Bool) (bytes : List ℕ) → IsAllowed bytes → IsAllowed (cond ends (bytes ++ 32 ∷ []) bytes)
kept-fit true bytes h = IsAllowed-append bytes (32 ∷ []) h refl
kept-fit false bytes h = h

mark-fit : (is_plan : Bool) (bytes : List ℕ) → IsAllowed bytes → IsAllowed (plan_mark is_plan ++ bytes)
mark-fit true bytes h = IsAllowed-append (codes "#tsc ") bytes refl h
mark-fit false bytes h = h

line-fit : (w : WrittenLine) → LineFits w → IsAllowed (line_text w)
line-fit w h =
    let bytes : List ℕ = plan_mark w.is_plan ++ join_with_byte 32 w.words in
    IsAllowed-append (kept_apart bytes) (10 ∷ []) (kept-fit (ends_in 92 bytes) bytes (mark-fit w.is_plan (join_with_byte 32 w.words) (joined-fit w.words h))) refl

text-fit : (ws : List WrittenLine) → Each LineFits ws → IsAllowed (text_of ws)
text-fit [] h = refl
text-fit (w ∷ ws) h = IsAllowed-append (line_text w) (text_of ws) (line-fit w h.0) (text-fit ws h.1)

Each-append : (xs ys : List WrittenLine) → Each LineFits xs → Each LineFits ys → Each LineFits (xs ++ ys)
Each-append [] ys h k = k
Each-append (x ∷ xs) ys h k = (h.0, Each-append xs ys h.1 k)

Each-map : {A : Type 0} (f : A → WrittenLine) (P : A → Type 0) (xs : List A) → ((x : A) → P x → LineFits (f x)) → Each P xs → Each LineFits (map f xs)
Each-map f P [] each h = tt
Each-map f P (x ∷ xs) each h = (each x h.0, Each-map f P xs each h.1)

pub names-fit : (names : List (List ℕ)) → Names names → WordsFit names
names-fit [] h = tt
names-fit (name ∷ names) h = (h.0.allowed, names-fit names h.1)

words-append : (xs ys : List (List ℕ)) → WordsFit xs → WordsFit ys → WordsFit (xs ++ ys)
words-append [] ys h k = k
words-append (x ∷ xs) ys h k = (h.0, words-append xs ys h.1 k)

bits-fit : (bits : List Bool) → IsAllowed (word_of_bits bits)
bits-fit [] = refl
bits-fit (true ∷ bits) = bits-fit bits
bits-fit (false ∷ bits) = bits-fit bits

literals-fit : (row : List Literal) → IsAllowed (text_of_literals row)
literals-fit [] = refl
literals-fit (Free ∷ row) = literals-fit row
literals-fit (Wants true ∷ row) = literals-fit row
literals-fit (Wants false ∷ row) = literals-fit row

row-fits : (on : Bool) (row : List Literal) → LineFits (row_line on row)
row-fits on [] = (bits-fit (on ∷ []), tt)
row-fits on (l ∷ row) = (literals-fit (l ∷ row), (bits-fit (on ∷ []), tt))

rows-fit : (on : Bool) (rows : List (List Literal)) → Each LineFits (map (row_line on) rows)
rows-fit on [] = tt
rows-fit on (row ∷ rows) = (row-fits on row, rows-fit on rows)

nodes-fit : (nodes : List NamedNode) → Each GoodNode nodes → Each LineFits (flat_map node_lines nodes)
nodes-fit [] h = tt
nodes-fit (n ∷ nodes) h = Each-append (node_lines n) (flat_map node_lines nodes)
    ((refl, words-append n.reads (n.out ∷ []) (names-fit n.reads h.0.reads) (h.0.out.allowed, tt)), rows-fit n.cover.on n.cover.rows)
    (nodes-fit nodes h.1)

latch-fits : (clock : List (List ℕ)) → Names clock → (l : NamedLatch) → GoodLatch l → LineFits (clocked_latch_line clock l)
latch-fits clock k l h =
    (refl, (h.reads.allowed, (h.out.allowed, words-append clock ((bit_character l.init ∷ []) ∷ []) (names-fit clock k) (bits-fit (l.init ∷ []), tt))))

checks-fit : (code : Code) (P : NamedPlan) → ChecksOf code P → Each LineFits (check_lines code P)
checks-fit Parity P h = Each-map group_line GoodGroup P.groups (λ names good. (refl, names-fit names good.each)) h
checks-fit Berger P h = ((refl, names-fit P.checks h.each), tt)
checks-fit MOutOfN P h = ((refl, names-fit P.checks h.each), tt)

version-fits : (version : ℕ) → (version ≡ 1) ⊎ (version ≡ 2) → IsAllowed (version_word version)
version-fits version (inl e) = ap (λ v. list_all is_allowed (version_word v)) e
version-fits version (inr e) = ap (λ v. list_all is_allowed (version_word v)) e

code-fits : (code : Code) → IsAllowed (code_word code)
code-fits Parity = refl
code-fits Berger = refl
code-fits MOutOfN = refl

pub code_line-fits : (version : ℕ) (code : Code) → (version ≡ 1) ⊎ (version ≡ 2) → LineFits (code_line version code)
code_line-fits version code h = (version-fits version h, (code-fits code, tt))

pub plan-fits : (P : NamedPlan) → GoodPlan P → Each LineFits (plan_lines P)
plan-fits P h = (
  code_line-fits P.version P.code h.version,
  Each-append (check_lines P.code P) (map state_line P.states) (checks-fit P.code P h.checks)
      (Each-map state_line (λ bits. 1 ≤ length bits) P.states (λ bits _. (refl, (bits-fit bits, tt))) h.states),
)

-- the text of a layout has only bytes that a text may hold
pub clocked-allowed : (clock : List (List ℕ)) (N : Named) (plan : List WrittenLine) → Names clock → GoodNet N → Each LineFits plan → bad_line (text_of (clocked_layout clock N plan)) ≡ None
clocked-allowed clock N plan w h k = bad_line_from-none 1 (text_of (clocked_layout clock N plan)) (text-fit (clocked_layout clock N plan)
    (Each-append (((head_lines N ++ plan) ++ map (clocked_latch_line clock) N.latches) ++ flat_map node_lines N.nodes) (end_line ∷ [])
    (Each-append ((head_lines N ++ plan) ++ map (clocked_latch_line clock) N.latches) (flat_map node_lines N.nodes)
    (Each-append (head_lines N ++ plan) (map (clocked_latch_line clock) N.latches)
    (Each-append (head_lines N) plan
    ((refl, (h.model.allowed, tt)), ((refl, names-fit N.inputs h.inputs), ((refl, names-fit N.outputs h.outputs), tt)))
    k)
    (Each-map (clocked_latch_line clock) GoodLatch N.latches (latch-fits clock w) h.latches))
    (nodes-fit N.nodes h.nodes))
    ((refl, tt), tt)))
