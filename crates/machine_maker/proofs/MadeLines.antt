-- The text of some rows is that of their lines, each of which can be written.
use Rattle.std.proofs.Common.{◌≡◌, refl, arith, ℕ, ◌<◌, ◌≤◌, Bool, true, false, cond, not, ◌&&◌, ◌||◌, eqb, nat_le, List, [], ◌∷◌, ◌++◌, codes, length, map, None, ap, ap₂, sym, ◌∙◌, ne_eqb, inl, inr, ◌⊎◌}
use Rattle.std.specs.List.{list_all, flat_map, AllByRecursion as Each}
use Rattle.std.specs.Fmt.{decimal}
use Rattle.std.proofs.lemmas.Bool.{and_from, and_parts, false≢true, le-leb, leb-true, cases_eq}
use Rattle.std.proofs.lemmas.List.{append_assoc}
use Rattle.std.proofs.lemmas.List.Folds.{list_all-append}
use Rattle.std.proofs.lemmas.List.Concat.{flat_map-cons}
use Rattle.tsc_cover.specs.Text.{is_literal, is_row_text}
use Rattle.tsc_text.specs.Bytes.{bad_line, is_allowed}
use Rattle.tsc_text.specs.Lines.{ends_in, lines_of}
use Rattle.tsc_text.specs.Number.{is_digit}
use Rattle.tsc_text.specs.Written.{can_be_written, is_word, is_word_byte, line_text, numbered, text_of}
use Rattle.tsc_text.proofs.Parts.{ends_in-append}
use Rattle.tsc_text.proofs.Written.{lines_of-text_of}
use Rattle.tsc_text.proofs.AllowedWords.{IsAllowed}
use Rattle.machine_maker.specs.Drawn.{DrawnRow, generator, rows_of_number}
use Rattle.machine_maker.specs.MadeText.{made_text, number_digits, row_line, state_name, text_of_rows}
use Rattle.machine_maker.specs.MadeLines.{end_line, made_lines, written_row}
use Rattle.machine_maker.proofs.RowFacts.{IsPattern, IsRowOf, rows_are}
use Rattle.tsc_text.proofs.AllowedTexts.{IsAllowed-append, bad_line_from-none, decimal_digits}

-- ---- which bytes stand in words

literal_codes : (b : ℕ) → is_literal b ≡ true → (48 ≤ b) × (b ≤ 49) ⊎ (b ≡ 45)
literal_codes b e = elim (cases_eq b 48) [
  | inl is ↦ inl (omega arith, omega arith)
  | inr other ↦ elim (cases_eq b 49) [
    | inl is ↦ inl (omega arith, omega arith)
    | inr third ↦ elim (cases_eq b 45) [
      | inl is ↦ inr is
      | inr none ↦ absurd (false≢true (sym (ap₂ (λ x y. x || y) (ap₂ (λ x y. x || y) (ne_eqb b 48 other) (ne_eqb b 49 third)) (ne_eqb b 45 none)) ∙ e))
    ]
  ]
]

-- a byte from 33 to 126 that is no `#` may stand in a word
plain_byte : (b : ℕ) → 36 ≤ b → b ≤ 126 → is_word_byte false b ≡ true
plain_byte b low high =
    let other : (code : ℕ) → code < 36 → eqb b code ≡ false = λ code lt. ne_eqb b code (λ same. omega arith) in
    and_from _ _
    (ap not (ap₂ (λ x y. x || y) (other 32 (omega arith)) (ap₂ (λ x y. x || y) (other 9 (omega arith)) (other 13 (omega arith)))))
    (and_from _ _ (ap not (other 10 (omega arith))) (ap (λ x. false || not x) (other 35 (omega arith))))

literal_byte : (b : ℕ) → is_literal b ≡ true → is_word_byte false b ≡ true
literal_byte b e = elim (literal_codes b e) [
  | inl within ↦ (let low = within.0 in let high = within.1 in plain_byte b (omega arith) (omega arith))
  | inr is ↦ plain_byte b (omega arith) (omega arith)
]

all_of : {P Q : ℕ → Bool} (text : List ℕ) → ((b : ℕ) → P b ≡ true → Q b ≡ true) → list_all P text ≡ true → list_all Q text ≡ true
all_of [] so e = refl
all_of {P} {Q} (b ∷ text) so e = let parts = and_parts (P b) (list_all P text) e in and_from _ _ (so b parts.0) (all_of text so parts.1)

digit_codes : (b : ℕ) → is_digit b ≡ true → (48 ≤ b) × (b ≤ 57)
digit_codes b e = let parts = and_parts (nat_le 48 b) (nat_le b 57) e in (leb-true 48 b parts.0, leb-true b 57 parts.1)

name_word : (state : ℕ) → state < 48 → list_all (is_word_byte false) (state_name state) ≡ true
name_word state few =
    and_from _ _ (plain_byte 115 (omega arith) (omega arith))
    (all_of (decimal state) (λ b e. let codes_of = digit_codes b e in let low = codes_of.0 in let high = codes_of.1 in plain_byte b (omega arith) (omega arith))
    (decimal_digits state (omega arith)))

pattern_word : (width : ℕ) (text : List ℕ) → IsPattern width text → list_all (is_word_byte false) text ≡ true
pattern_word width text is = all_of text literal_byte is.literals

-- the first two characters of a row's line are `0` or `1`
pub digits_are : (number : ℕ) → number < 4 → is_row_text (number_digits number) ≡ true
digits_are number few = elim (cases_eq number 0) [
  | inl is ↦ rw is refl
  | inr n0 ↦ elim (cases_eq number 1) [
    | inl is ↦ rw is refl
    | inr n1 ↦ elim (cases_eq number 2) [
      | inl is ↦ rw is refl
      | inr n2 ↦ let is : number ≡ 3 = omega arith in rw is refl
    ]
  ]
]

input_literals : (row : DrawnRow) → IsRowOf row → is_row_text (number_digits row.number ++ row.asked) ≡ true
input_literals row is = list_all-append is_literal (number_digits row.number) row.asked ∙ ap₂ (λ a b. a && b) (digits_are row.number is.number) is.asked.literals

-- the words of a row can be written
word_is : (word : List ℕ) → 1 ≤ length word → list_all (is_word_byte false) word ≡ true → is_word false word ≡ true
word_is word some all = and_from (nat_le 1 (length word)) (list_all (is_word_byte false) word) (le-leb 1 (length word) some) all

pub row_can : (row : DrawnRow) → IsRowOf row → can_be_written (written_row row) ≡ true
row_can row is =
    let input = number_digits row.number ++ row.asked in
    let sized = is.outputs.sized in
    let a : is_word false input ≡ true = word_is input (omega arith) (all_of input literal_byte (input_literals row is)) in
    let b : is_word false (state_name row.state) ≡ true = word_is (state_name row.state) (omega arith) (name_word row.state is.state) in
    let c : is_word false (state_name row.next) ≡ true = word_is (state_name row.next) (omega arith) (name_word row.next is.next) in
    let d : is_word false row.outputs ≡ true = word_is row.outputs (omega (arith, sized)) (pattern_word 8 row.outputs is.outputs) in
    ap₂ (λ x y. x && y) a (ap₂ (λ x y. x && y) b (ap₂ (λ x y. x && y) c (ap (λ x. x && true) d)))

rows_can : (rows : List DrawnRow) → Each IsRowOf rows → list_all can_be_written (map written_row rows ++ end_line ∷ []) ≡ true
rows_can [] each = refl
rows_can (row ∷ rows) each = and_from _ _ (row_can row each.0) (rows_can rows each.1)

-- ---- the text is that of the lines

literal_last : (text : List ℕ) → is_row_text text ≡ true → ends_in 92 text ≡ false
literal_last [] e = refl
literal_last (b ∷ []) e = (let parts = and_parts (is_literal b) true e in elim (literal_codes b parts.0) [
  | inl within ↦ (let high = within.1 in ne_eqb b 92 (λ same. omega arith))
  | inr is ↦ ne_eqb b 92 (λ same. omega arith)
])
literal_last (b ∷ c ∷ text) e = literal_last (c ∷ text) (and_parts (is_literal b) (list_all is_literal (c ∷ text)) e).1

not_open : (front text : List ℕ) → IsPattern 8 text → ends_in 92 (front ++ text) ≡ false
not_open front [] is = (let sized = is.sized in let none : ⊥ = omega (arith, sized) in absurd none)
not_open front (d ∷ c) is = ends_in-append 92 front d c ∙ literal_last (d ∷ c) is.literals

row_bytes : (a s n o : List ℕ) → a ++ (32 ∷ (s ++ (32 ∷ (n ++ (32 ∷ o))))) ≡ (a ++ (32 ∷ (s ++ (32 ∷ (n ++ 32 ∷ []))))) ++ o
row_bytes a s n o = grind (arith, append_assoc)

row_text : (d a s n o : List ℕ) → ((d ++ a) ++ (32 ∷ (s ++ (32 ∷ (n ++ (32 ∷ o)))))) ++ 10 ∷ [] ≡ d ++ (a ++ (32 ∷ (s ++ (32 ∷ (n ++ (32 ∷ (o ++ 10 ∷ [])))))))
row_text d a s n o = grind (arith, append_assoc)

row_line_is : (row : DrawnRow) → IsRowOf row → line_text (written_row row) ≡ row_line row
row_line_is row is =
    let input = number_digits row.number ++ row.asked in
    let bytes : List ℕ = input ++ (32 ∷ (state_name row.state ++ (32 ∷ (state_name row.next ++ (32 ∷ row.outputs))))) in
    let same = row_bytes input (state_name row.state) (state_name row.next) row.outputs in
    let closed : ends_in 92 bytes ≡ false = ap (ends_in 92) same ∙ not_open (input ++ (32 ∷ (state_name row.state ++ (32 ∷ (state_name row.next ++ 32 ∷ []))))) row.outputs is.outputs in
    ap (λ b. cond b (bytes ++ 32 ∷ []) bytes ++ 10 ∷ []) closed
    ∙ row_text (number_digits row.number) row.asked (state_name row.state) (state_name row.next) row.outputs

rows_text : (rows : List DrawnRow) → Each IsRowOf rows → text_of (map written_row rows ++ end_line ∷ []) ≡ flat_map row_line rows ++ (codes ".e" ++ 10 ∷ [])
rows_text [] each = refl
rows_text (row ∷ rows) each =
    ap₂ (λ a b. a ++ b) (row_line_is row each.0) (rows_text rows each.1)
    ∙ (append_assoc' (row_line row) (flat_map row_line rows) (codes ".e" ++ 10 ∷ [])
    ∙ ap (λ l. l ++ (codes ".e" ++ 10 ∷ [])) (sym (flat_map-cons row_line row rows)))
  where
    append_assoc' : (a b c : List ℕ) → a ++ (b ++ c) ≡ (a ++ b) ++ c
    append_assoc' a b c = sym (append_assoc a b c)

pub text_is : (rows : List DrawnRow) → Each IsRowOf rows → text_of (made_lines rows) ≡ text_of_rows rows
text_is rows each = ap (λ l. codes ".i 7" ++ (10 ∷ (codes ".o 8" ++ (10 ∷ l)))) (rows_text rows each)

-- the lines of the made text are those made of the rows of the number, numbered from 1
pub read_lines : (number : ℕ) → lines_of (made_text number) ≡ numbered 1 (made_lines (rows_of_number number))
read_lines number =
    let rows = rows_of_number number in
    let each = rows_are 192 (generator number) (omega arith) in
    ap lines_of (sym (text_is rows each)) ∙ lines_of-text_of (made_lines rows) (rows_can rows each)

-- ---- each byte may stand in a text

plain_allowed : (b : ℕ) → 36 ≤ b → b ≤ 126 → is_allowed b ≡ true
plain_allowed b low high = ap (λ v. v || (eqb b 9 || (eqb b 13 || eqb b 10))) (and_from _ _ (le-leb 32 b (omega arith)) (le-leb b 126 high))

literal_fits : (b : ℕ) → is_literal b ≡ true → is_allowed b ≡ true
literal_fits b e = elim (literal_codes b e) [
  | inl within ↦ (let low = within.0 in let high = within.1 in plain_allowed b (omega arith) (omega arith))
  | inr is ↦ plain_allowed b (omega arith) (omega arith)
]

name_fits : (state : ℕ) → state < 48 → IsAllowed (state_name state)
name_fits state few =
    and_from true _ refl
    (all_of (decimal state) (λ b e. let codes_of = digit_codes b e in let low = codes_of.0 in let high = codes_of.1 in plain_allowed b (omega arith) (omega arith))
    (decimal_digits state (omega arith)))

row_fits : (row : DrawnRow) → IsRowOf row → IsAllowed (row_line row)
row_fits row is =
    let outputs : List ℕ = row.outputs ++ 10 ∷ [] in
    let next : List ℕ = state_name row.next ++ (32 ∷ outputs) in
    let state : List ℕ = state_name row.state ++ (32 ∷ next) in
    let o : IsAllowed outputs = IsAllowed-append row.outputs (10 ∷ []) (all_of row.outputs literal_fits is.outputs.literals) refl in
    let n : IsAllowed next = IsAllowed-append (state_name row.next) (32 ∷ outputs) (name_fits row.next is.next) (and_from true (list_all is_allowed outputs) refl o) in
    let q : IsAllowed state = IsAllowed-append (state_name row.state) (32 ∷ next) (name_fits row.state is.state) (and_from true (list_all is_allowed next) refl n) in
    IsAllowed-append (number_digits row.number) (row.asked ++ (32 ∷ state)) (all_of (number_digits row.number) literal_fits (digits_are row.number is.number))
    (IsAllowed-append row.asked (32 ∷ state) (all_of row.asked literal_fits is.asked.literals) (and_from true (list_all is_allowed state) refl q))

rows_fit : (rows : List DrawnRow) → Each IsRowOf rows → IsAllowed (flat_map row_line rows)
rows_fit [] each = refl
rows_fit (row ∷ rows) each =
    ap (list_all is_allowed) (flat_map-cons row_line row rows) ∙ IsAllowed-append (row_line row) (flat_map row_line rows) (row_fits row each.0) (rows_fit rows each.1)

pub made_bytes : (number : ℕ) → bad_line (made_text number) ≡ None
made_bytes number =
    let rows = rows_of_number number in
    bad_line_from-none 1 (made_text number)
    (IsAllowed-append (flat_map row_line rows) (codes ".e" ++ 10 ∷ []) (rows_fit rows (rows_are 192 (generator number) (omega arith))) refl)
