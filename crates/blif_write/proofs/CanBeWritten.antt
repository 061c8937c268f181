-- Each line of a writable netlist with its plan can be written.
use Rattle.std.proofs.Common.{◌≡◌, ℕ, ◌≤◌, Bool, true, false, not, ◌&&◌, ◌||◌, eqb, List, [], ◌∷◌, ◌++◌, codes, length, map, refl, ap, ap₂, ◌∙◌, arith, inl, inr, ◌⊎◌}
use Rattle.std.specs.List.{list_all, flat_map, AllByRecursion as Each}
use Rattle.std.proofs.Math.Dec.{leb}
use Rattle.std.proofs.lemmas.Bool.{le-leb}
use Rattle.std.proofs.lemmas.List.Folds.{list_all-append}
use Rattle.tsc_cover.specs.Cover.{Literal, Free, Wants}
use Rattle.tsc_cover.specs.Text.{character_of, text_of_literals}
use Rattle.tsc_text.specs.Bytes.{is_blank, is_feed}
use Rattle.tsc_text.specs.Written.{WrittenLine, can_be_written, is_word, is_word_byte}
use Rattle.tsc_text.proofs.Written.{Both, both}
use Rattle.fault_secure.specs.declared.code.Code.{Code}
use Rattle.fault_secure.specs.declared.code.Code.TheVariants.{Parity, Berger, MOutOfN}
use Rattle.tsc_net.specs.Named.{Named, NamedLatch, NamedNode}
use Rattle.blif_write.specs.NamedPlan.{NamedPlan}
use Rattle.blif_write.specs.Layout.{bit_character, word_of_bits, plan_line_of, version_word, code_word, code_line, group_line, check_line, state_line, check_lines, plan_lines, clocked_latch_line, names_line, row_line, row_lines, node_lines, head_lines, end_line, clocked_layout}
use Rattle.blif_write.proofs.Good.{Names, GoodLatch, GoodNode, GoodNet, GoodGroup, GoodChecks, ChecksOf, GoodPlan}

-- all lines can be written
abbrev pub Can : List WrittenLine → Type 0
Can lines = list_all can_be_written lines ≡ true

Can-append : (xs ys : List WrittenLine) → Can xs → Can ys → Can (xs ++ ys)
Can-append xs ys h k = list_all-append can_be_written xs ys ∙ ap₂ (λ a b. a && b) h k

Can-cons : (x : WrittenLine) (xs : List WrittenLine) → can_be_written x ≡ true → Can xs → Can (x ∷ xs)
Can-cons x xs h k = ap₂ (λ a b. a && b) h k

Can-map : {A : Type 0} (f : A → WrittenLine) (P : A → Type 0) (xs : List A) → ((x : A) → P x → can_be_written (f x) ≡ true) → Each P xs → Can (map f xs)
Can-map f P [] each h = refl
Can-map f P (x ∷ xs) each h = Can-cons (f x) (map f xs) (each x h.0) (Can-map f P xs each h.1)

Can-flat_map : {A : Type 0} (f : A → List WrittenLine) (P : A → Type 0) (xs : List A) → ((x : A) → P x → Can (f x)) → Each P xs → Can (flat_map f xs)
Can-flat_map f P [] each h = refl
Can-flat_map f P (x ∷ xs) each h = Can-append (f x) (flat_map f xs) (each x h.0) (Can-flat_map f P xs each h.1)

-- a name is a word of a plan line too
plan-byte : (b : ℕ) → is_word_byte false b ≡ true → is_word_byte true b ≡ true
plan-byte b h =
    let one : Both (not (is_blank b)) (not (is_feed b) && (false || not (eqb b 35))) = both _ _ h in
    let two : Both (not (is_feed b)) (false || not (eqb b 35)) = both _ _ one.right in
    ap₂ (λ x y. x && (y && true)) one.left two.left

plan-bytes : (w : List ℕ) → list_all (is_word_byte false) w ≡ true → list_all (is_word_byte true) w ≡ true
plan-bytes [] h = refl
plan-bytes (b ∷ w) h =
    let parts : Both (is_word_byte false b) (list_all (is_word_byte false) w) = both _ _ h in
    ap₂ (λ x y. x && y) (plan-byte b parts.left) (plan-bytes w parts.right)

word-in : (is_plan : Bool) (w : List ℕ) → is_word false w ≡ true → is_word is_plan w ≡ true
word-in false w h = h
word-in true w h =
    let parts : Both (leb 1 (length w)) (list_all (is_word_byte false) w) = both _ _ h in
    ap₂ (λ x y. x && y) parts.left (plan-bytes w parts.right)

names-words : (is_plan : Bool) (names : List (List ℕ)) → Names names → list_all (is_word is_plan) names ≡ true
names-words is_plan [] h = refl
names-words is_plan (name ∷ names) h = ap₂ (λ x y. x && y) (word-in is_plan name h.0.word) (names-words is_plan names h.1)

-- a line with a word, and words alone
line-can : (is_plan : Bool) (w : List ℕ) (ws : List (List ℕ)) → is_word is_plan w ≡ true → list_all (is_word is_plan) ws ≡ true → can_be_written (record { is_plan = is_plan; words = w ∷ ws }) ≡ true
line-can is_plan w ws h k =
    let some : 1 ≤ length (w ∷ ws) = omega arith in
    ap₂ (λ x y. x && y) (le-leb 1 (length (w ∷ ws)) some) (ap₂ (λ x y. x && y) h k)

filled-word : (is_plan : Bool) (b : ℕ) (w : List ℕ) → list_all (is_word_byte is_plan) (b ∷ w) ≡ true → is_word is_plan (b ∷ w) ≡ true
filled-word is_plan b w h = let some : 1 ≤ length (b ∷ w) = omega arith in ap₂ (λ x y. x && y) (le-leb 1 (length (b ∷ w)) some) h

bit-byte : (is_plan bit : Bool) → is_word_byte is_plan (bit_character bit) ≡ true
bit-byte true true = refl
bit-byte true false = refl
bit-byte false true = refl
bit-byte false false = refl

bits-bytes : (is_plan : Bool) (bits : List Bool) → list_all (is_word_byte is_plan) (word_of_bits bits) ≡ true
bits-bytes is_plan [] = refl
bits-bytes is_plan (bit ∷ bits) = ap₂ (λ x y. x && y) (bit-byte is_plan bit) (bits-bytes is_plan bits)

bits-word : (is_plan : Bool) (bits : List Bool) → 1 ≤ length bits → is_word is_plan (word_of_bits bits) ≡ true
bits-word is_plan [] h = absurd (omega arith)
bits-word is_plan (bit ∷ bits) h = filled-word is_plan (bit_character bit) (word_of_bits bits) (bits-bytes is_plan (bit ∷ bits))

literal-byte : (l : Literal) → is_word_byte false (character_of l) ≡ true
literal-byte Free = refl
literal-byte (Wants true) = refl
literal-byte (Wants false) = refl

literals-bytes : (row : List Literal) → list_all (is_word_byte false) (text_of_literals row) ≡ true
literals-bytes [] = refl
literals-bytes (l ∷ row) = ap₂ (λ x y. x && y) (literal-byte l) (literals-bytes row)

row-can : (on : Bool) (row : List Literal) → can_be_written (row_line on row) ≡ true
row-can on [] = line-can false (bit_character on ∷ []) [] (bits-word false (on ∷ []) (omega arith)) refl
row-can on (l ∷ row) = line-can false (text_of_literals (l ∷ row)) ((bit_character on ∷ []) ∷ [])
    (filled-word false (character_of l) (text_of_literals row) (literals-bytes (l ∷ row)))
    (ap (λ x. x && true) (bits-word false (on ∷ []) (omega arith)))

rows-can : (on : Bool) (rows : List (List Literal)) → Can (map (row_line on) rows)
rows-can on [] = refl
rows-can on (row ∷ rows) = Can-cons (row_line on row) (map (row_line on) rows) (row-can on row) (rows-can on rows)

names-line-can : (n : NamedNode) → GoodNode n → can_be_written (names_line n) ≡ true
names-line-can n h = line-can false (codes ".names") (n.reads ++ n.out ∷ []) refl
    (list_all-append (is_word false) n.reads (n.out ∷ []) ∙ ap₂ (λ x y. x && y) (names-words false n.reads h.reads) (ap (λ x. x && true) (word-in false n.out h.out.word)))

node-can : (n : NamedNode) → GoodNode n → Can (node_lines n)
node-can n h = Can-cons (names_line n) (row_lines n.cover) (names-line-can n h) (rows-can n.cover.on n.cover.rows)

latch-can : (clock : List (List ℕ)) → Names clock → (l : NamedLatch) → GoodLatch l → can_be_written (clocked_latch_line clock l) ≡ true
latch-can clock k l h =
    let init : List (List ℕ) = (bit_character l.init ∷ []) ∷ [] in
    line-can false (codes ".latch") (l.reads ∷ l.out ∷ (clock ++ init)) refl
    (ap₂ (λ x y. x && y) (word-in false l.reads h.reads.word)
    (ap₂ (λ x y. x && y) (word-in false l.out h.out.word)
    (list_all-append (is_word false) clock init ∙ ap₂ (λ x y. x && y) (names-words false clock k) (ap (λ x. x && true) (bits-word false (l.init ∷ []) (omega arith))))))

version-can : (version : ℕ) → (version ≡ 1) ⊎ (version ≡ 2) → is_word true (version_word version) ≡ true
version-can version (inl e) = ap (λ v. is_word true (version_word v)) e
version-can version (inr e) = ap (λ v. is_word true (version_word v)) e

code-can : (code : Code) → is_word true (code_word code) ≡ true
code-can Parity = refl
code-can Berger = refl
code-can MOutOfN = refl

-- a plan line of a word and of names
pub named-can : (w : List ℕ) (names : List (List ℕ)) → is_word true w ≡ true → Names names → can_be_written (plan_line_of (w ∷ names)) ≡ true
named-can w names h k = line-can true w names h (names-words true names k)

group-can : (names : List (List ℕ)) → GoodGroup names → can_be_written (group_line names) ≡ true
group-can names h = named-can (codes "group") names refl h.each

check-can : (names : List (List ℕ)) → GoodChecks names → can_be_written (check_line names) ≡ true
check-can names h = named-can (codes "check") names refl h.each

state-can : (bits : List Bool) → 1 ≤ length bits → can_be_written (state_line bits) ≡ true
state-can bits h = line-can true (codes "state") (word_of_bits bits ∷ []) refl (ap (λ x. x && true) (bits-word true bits h))

checks-can : (code : Code) (P : NamedPlan) → ChecksOf code P → Can (check_lines code P)
checks-can Parity P h = Can-map group_line GoodGroup P.groups group-can h
checks-can Berger P h = Can-cons (check_line P.checks) [] (check-can P.checks h) refl
checks-can MOutOfN P h = Can-cons (check_line P.checks) [] (check-can P.checks h) refl

pub code_line-can : (version : ℕ) (code : Code) → (version ≡ 1) ⊎ (version ≡ 2) → can_be_written (code_line version code) ≡ true
code_line-can version code h = line-can true (version_word version) (code_word code ∷ []) (version-can version h) (ap (λ x. x && true) (code-can code))

pub plan-can : (P : NamedPlan) → GoodPlan P → Can (plan_lines P)
plan-can P h = Can-cons (code_line P.version P.code) (check_lines P.code P ++ map state_line P.states)
    (code_line-can P.version P.code h.version)
    (Can-append (check_lines P.code P) (map state_line P.states) (checks-can P.code P h.checks)
    (Can-map state_line (λ bits. 1 ≤ length bits) P.states state-can h.states))

head-can : (N : Named) → GoodNet N → Can (head_lines N)
head-can N h =
    ap₂ (λ x y. x && y) (line-can false (codes ".model") (N.model ∷ []) refl (ap (λ x. x && true) (word-in false N.model h.model.word)))
    (ap₂ (λ x y. x && y) (line-can false (codes ".inputs") N.inputs refl (names-words false N.inputs h.inputs))
    (ap (λ x. x && true) (line-can false (codes ".outputs") N.outputs refl (names-words false N.outputs h.outputs))))

pub clocked-can : (clock : List (List ℕ)) (N : Named) (plan : List WrittenLine) → Names clock → GoodNet N → Can plan → Can (clocked_layout clock N plan)
clocked-can clock N plan w h k =
    let latches : List WrittenLine = map (clocked_latch_line clock) N.latches in
    Can-append (((head_lines N ++ plan) ++ latches) ++ flat_map node_lines N.nodes) (end_line ∷ [])
    (Can-append ((head_lines N ++ plan) ++ latches) (flat_map node_lines N.nodes)
    (Can-append (head_lines N ++ plan) latches
    (Can-append (head_lines N) plan (head-can N h) k)
    (Can-map (clocked_latch_line clock) GoodLatch N.latches (latch-can clock w) h.latches))
    (Can-flat_map node_lines GoodNode N.nodes node-can h.nodes))
    refl
