-- Names are words, and short, whether a line gives them or they are numbered.
use Rattle.std.proofs.Common.{◌≡◌, ℕ, suc, ◌+◌, ◌<◌, ◌≤◌, ◌^◌, Bool, true, false, not, ◌||◌, eqb, nat_le, if◌then◌else◌, List, [], ◌∷◌, length, get_or, Option, Some, None, All, refl, sym, ap, ap₂, ◌∙◌, arith, ne_eqb}
use Rattle.std.specs.List.{list_all, range_with_len}
use Rattle.std.specs.Fmt.{decimal}
use Rattle.std.proofs.lemmas.Bool.{and_from, and_parts, le-leb, leb-true, ltb-false}
use Rattle.std.proofs.lemmas.Fmt.{length-decimal-le_succ}
use Rattle.std.proofs.lemmas.List.Elements.{All-cons, All-drop, All-map, All-nil, All-from_get_or}
use Rattle.std.proofs.lemmas.List.FromFn.{get_or-range_with_len, length-range_with_len}
use Rattle.tsc_text.specs.Number.{is_digit}
use Rattle.tsc_text.specs.Written.{is_name, is_word, is_word_byte}
use Rattle.tsc_text.specs.TextLine.{TextLine}
use Rattle.tsc_text.specs.declared.which.Which.TheVariants.{NameBytes}
use Rattle.tsc_text.proofs.AllowedTexts.{decimal_digits}
use Rattle.table_lines.specs.LineFaults.{is_long, long_name, names_of}
use Rattle.table_lines.specs.NamesText.{names_or, numbered_name, numbered_names}
use Rattle.table_lines.specs.Denotes.{HasWords, IsName, IsShort}
use Rattle.table_lines.specs.declared.cause.Cause.TheVariants.{Limit}

-- ---- words

all_names : (words : List (List ℕ)) → list_all is_name words ≡ true → All IsName words
all_names [] e = All-nil IsName
all_names (word ∷ words) e =
    let parts = and_parts (is_name word) (list_all is_name words) e in
    All-cons IsName word words parts.0 (all_names words parts.1)

names_of_line : (line : TextLine) → HasWords line → line.is_plan ≡ false → All IsName (names_of line)
names_of_line line h e =
    let parts = and_parts (nat_le 1 (length line.words)) (list_all (is_word line.is_plan) line.words) h in
    All-drop IsName 1 line.words (all_names line.words (ap (λ b. list_all (is_word b) line.words) (sym e) ∙ parts.1))

digit_byte : (b : ℕ) → is_digit b ≡ true → is_word_byte false b ≡ true
digit_byte b e =
    let parts = and_parts (nat_le 48 b) (nat_le b 57) e in
    let low : 48 ≤ b = leb-true 48 b parts.0 in
    let other : (code : ℕ) → code < 48 → eqb b code ≡ false = λ code lt. ne_eqb b code (λ same. omega arith) in
    and_from _ _
    (ap not (ap₂ (λ x y. x || y) (other 32 (omega arith)) (ap₂ (λ x y. x || y) (other 9 (omega arith)) (other 13 (omega arith)))))
    (and_from _ _ (ap not (other 10 (omega arith))) (ap (λ x. false || not x) (other 35 (omega arith))))

digit_bytes : (digits : List ℕ) → list_all is_digit digits ≡ true → list_all (is_word_byte false) digits ≡ true
digit_bytes [] e = refl
digit_bytes (b ∷ digits) e =
    let parts = and_parts (is_digit b) (list_all is_digit digits) e in
    and_from _ _ (digit_byte b parts.0) (digit_bytes digits parts.1)

numbered_word : (letter n : ℕ) → is_word_byte false letter ≡ true → n < 2 ^ 64 → IsName (numbered_name letter n)
numbered_word letter n e h =
    and_from (nat_le 1 (length (numbered_name letter n))) (list_all (is_word_byte false) (numbered_name letter n)) some
    (and_from (is_word_byte false letter) (list_all (is_word_byte false) (decimal n)) e (digit_bytes (decimal n) (decimal_digits n h)))
  where
    some : nat_le 1 (suc (length (decimal n))) ≡ true
    some = le-leb 1 (suc (length (decimal n))) (omega arith)

numbered_words : (letter count : ℕ) → is_word_byte false letter ≡ true → count ≤ 64 → All IsName (numbered_names letter count)
numbered_words letter count e few =
    All-map IsName (numbered_name letter) (range_with_len 0 count)
    (All-from_get_or (λ n. IsName (numbered_name letter n)) (range_with_len 0 count) 0
    (λ i lt.
    let n : get_or (range_with_len 0 count) i 0 ≡ 0 + i = get_or-range_with_len 0 count i 0 (let l = length-range_with_len 0 count in omega arith) in
    numbered_word letter (get_or (range_with_len 0 count) i 0) e (let l = length-range_with_len 0 count in omega arith)))

-- the names that a line of words gives, where it is no plan line, or at most 64 numbered ones without it, are names
pub words_or : (line : Option TextLine) (letter count : ℕ) → is_word_byte false letter ≡ true → count ≤ 64
    → ((given : TextLine) → line ≡ Some given → HasWords given × (given.is_plan ≡ false)) → All IsName (names_or line letter count)
words_or None letter count e few h = numbered_words letter count e few
words_or (Some line) letter count e few h = let is = h line refl in names_of_line line is.0 is.1

-- ---- short names

all_short : (names : List (List ℕ)) → long_name names ≡ None → All IsShort names
all_short [] e = All-nil IsShort
all_short (name ∷ names) e = by (is_long name) refl (all_short names) e
  where
    by : (b : Bool) → is_long name ≡ b → (long_name names ≡ None → All IsShort names)
        → (if b then Some (Limit NameBytes) else long_name names) ≡ None → All IsShort (name ∷ names)
    by true f rest g = cc
    by false f rest g = All-cons IsShort name names (ltb-false 255 (length name) f) (rest g)

numbers_short : (letter count : ℕ) → count ≤ 64 → All IsShort (numbered_names letter count)
numbers_short letter count few =
    All-map IsShort (numbered_name letter) (range_with_len 0 count)
    (All-from_get_or (λ n. IsShort (numbered_name letter n)) (range_with_len 0 count) 0 (λ i lt. short i (let l = length-range_with_len 0 count in omega arith)))
  where
    short : (i : ℕ) → i < count → IsShort (numbered_name letter (get_or (range_with_len 0 count) i 0))
    short i lt =
        let n : get_or (range_with_len 0 count) i 0 ≡ 0 + i = get_or-range_with_len 0 count i 0 lt in
        let at : get_or (range_with_len 0 count) i 0 < 2 ^ 64 = omega arith in
        let digits : length (decimal (get_or (range_with_len 0 count) i 0)) ≤ get_or (range_with_len 0 count) i 0 + 1 = length-decimal-le_succ (get_or (range_with_len 0 count) i 0) at in
        omega arith

-- the names that a line gives, or at most 64 numbered ones without it, are short, where the line gives no long name
pub names_short : (line : Option TextLine) (letter count : ℕ) → count ≤ 64 → ((given : TextLine) → line ≡ Some given → long_name (names_of given) ≡ None)
    → All IsShort (names_or line letter count)
names_short None letter count few h = numbers_short letter count few
names_short (Some line) letter count few h = all_short (names_of line) (h line refl)
