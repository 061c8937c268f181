-- Rows that are kept as two numbers: what their literals are, when they match, when two meet, and that equal literals mean equal rows.
use Rattle.std.proofs.Common.{◌≡◌, ℕ, zero, suc, ◌+◌, ◌-◌, ◌*◌, ◌%◌, ◌^◌, ◌<◌, ◌≤◌, Bool, true, false, not, ◌&&◌, ◌||◌, if◌then◌else◌, eqb, List, [], ◌∷◌, ◌++◌, map, length, bit_and, bit_xor, refl, sym, ap, ap₂, ◌∙◌, arith, mod-eq_of_lt, eq-eqb, ne_eqb, eqb-true, pow_pos, All, IsTrue, lt_of_le_of_lt, Decides, pow-suc, add-one}
use Rattle.std.proofs.Math.Bool.{beq}
use mir.Val.{bool_byte}
use Rattle.std.specs.List.{list_any}
use Rattle.std.proofs.lemmas.Nat.{and_le_r, and_block}
use Rattle.std.proofs.lemmas.List.Elements.{All-tail, All-cons}
use Rattle.std.proofs.lemmas.Bool.{and_parts, and_from, false≢true}
use Rattle.tsc_bits.specs.Bits.{same, weight_of, bit_worth, bits_of, binary}
use Rattle.tsc_cover.specs.Cover.{Literal, Free, Wants, accepts, asks_for, row_matches, CoverTable, some_row_matches, truth, literal_at, wrong_sign, literals, wants_bit}
use Rattle.tsc_cover.specs.Row.{literal, literals_of, literals_of_each, table_of, IsRow}
use Rattle.tsc_cover.specs.declared.rows.Row01.{Row01}
use Rattle.tsc_bits.proofs.Bits.{bit_worth-and, bit_worth-xor, mod-pow-suc, binary-bits_of, bit_worth-last, bit_worth-suc, weight_of-lt}

-- ---- the literals

-- there are as many literals as are asked for
pub length-literals : (n care value : ℕ) → length (literals n care value) ≡ n
length-literals zero care value = refl
length-literals (suc n) care value = ap suc (length-literals n care value)

-- the literal at a pin is that of the pin's bits in both numbers
pub literal_at-literals : (n care value pin : ℕ) → pin < n → literal_at (literals n care value) pin ≡ literal (bit_worth (n - 1 - pin) care) (bit_worth (n - 1 - pin) value)
literal_at-literals zero care value pin h = absurd (omega arith)
literal_at-literals (suc n) care value zero h =
    let e : n ≡ suc n - 1 - 0 = omega arith in
    ap (λ k. literal (bit_worth k care) (bit_worth k value)) e
literal_at-literals (suc n) care value (suc pin) h =
    let e : n - 1 - pin ≡ suc n - 1 - suc pin = omega arith in
    literal_at-literals n care value pin (omega arith)
    ∙ ap (λ k. literal (bit_worth k care) (bit_worth k value)) e

-- one more pin at the end of a row
pub literals-last : (n care value : ℕ) (c v : Bool) → literals (suc n) (care * 2 + weight_of c) (value * 2 + weight_of v) ≡ literals n care value ++ literal c v ∷ []
literals-last zero care value c v =
    ap₂ (λ x y. literal x y ∷ []) (bit_worth-last care c) (bit_worth-last value v)
literals-last (suc n) care value c v =
    ap₂ (λ l row. l ∷ row)
    (ap₂ literal (bit_worth-suc n care c) (bit_worth-suc n value v))
    (literals-last n care value c v)

-- ---- when a row matches

accepts-bits : (care value read : Bool) → accepts (literal care value) read ≡ not (not (same read value) && care)
accepts-bits true true true = refl
accepts-bits true true false = refl
accepts-bits true false true = refl
accepts-bits true false false = refl
accepts-bits false true true = refl
accepts-bits false true false = refl
accepts-bits false false true = refl
accepts-bits false false false = refl

-- the bit of the pins that a row reads and finds otherwise
pub bit-differs : (k care value read : ℕ) → bit_worth k (bit_and (bit_xor read value) care) ≡ (not (same (bit_worth k read) (bit_worth k value)) && bit_worth k care)
bit-differs k care value read =
    bit_worth-and k (bit_xor read value) care ∙ ap (λ b. b && bit_worth k care) (bit_worth-xor k read value)

-- a number is 0 where its first bit and all others are
zero-front : (b : Bool) (p rest : ℕ) → 0 < p → eqb (weight_of b * p + rest) 0 ≡ (not b && eqb rest 0)
zero-front true p rest h = ne_eqb (1 * p + rest) 0 (λ e. omega arith)
zero-front false p rest h =
    let e : 0 * p + rest ≡ rest = omega arith in ap (λ x. eqb x 0) e

row_matches-mod : (n care value read : ℕ) → row_matches (literals n care value) (bits_of n read) ≡ eqb (bit_and (bit_xor read value) care % 2 ^ n) 0
row_matches-mod zero care value read =
    let e : bit_and (bit_xor read value) care % 2 ^ 0 ≡ 0 = omega arith in
    sym (eq-eqb (bit_and (bit_xor read value) care % 2 ^ 0) 0 e)
row_matches-mod (suc n) care value read =
    ap₂ (λ a b. a && b)
    (accepts-bits (bit_worth n care) (bit_worth n value) (bit_worth n read)
    ∙ ap not (sym (bit-differs n care value read)))
    (row_matches-mod n care value read)
    ∙ (sym (zero-front (bit_worth n (bit_and (bit_xor read value) care)) (2 ^ n) (bit_and (bit_xor read value) care % 2 ^ n) (pow_pos n))
    ∙ ap (λ x. eqb x 0) (sym (mod-pow-suc n (bit_and (bit_xor read value) care))))

-- a row matches exactly where no pin that it reads differs from its value
pub row_matches-bits_of : (n care value read : ℕ) → care < 2 ^ n → row_matches (literals n care value) (bits_of n read) ≡ eqb (bit_and (bit_xor read value) care) 0
row_matches-bits_of n care value read h =
    row_matches-mod n care value read
    ∙ ap (λ x. eqb x 0) (mod-eq_of_lt (lt_of_le_of_lt (and_le_r (bit_xor read value) care) h))

pub some_row_matches-bits_of : (n : ℕ) (rows : List Row01) (read : ℕ) → All (IsRow n) rows → some_row_matches (literals_of_each n rows) (bits_of n read) ≡ list_any (λ (row : Row01). eqb (bit_and (bit_xor read row.value) row.care) 0) rows
some_row_matches-bits_of n [] read h = refl
some_row_matches-bits_of n (row ∷ rows) read h =
    ap₂ (λ a b. a || b)
    (row_matches-bits_of n row.care row.value read (h 0 row (omega arith)).narrow)
    (some_row_matches-bits_of n rows read (All-tail (IsRow n) row rows h))

-- ---- signs

-- the literals at a pin, of each row
asks-literal : (care value wanted : Bool) → asks_for wanted (literal care value) ≡ (care && same value wanted)
asks-literal true value wanted = refl
asks-literal false value wanted = refl

pub some_row_asks : (n : ℕ) (rows : List Row01) (pin : ℕ) (wanted : Bool) → pin < n → list_any (λ row. asks_for wanted (literal_at row pin)) (literals_of_each n rows) ≡ list_any (λ (row : Row01). bit_worth (n - 1 - pin) row.care && same (bit_worth (n - 1 - pin) row.value) wanted) rows
some_row_asks n [] pin wanted h = refl
some_row_asks n (row ∷ rows) pin wanted h =
    ap₂ (λ a b. a || b)
    (ap (asks_for wanted) (literal_at-literals n row.care row.value pin h)
    ∙ asks-literal (bit_worth (n - 1 - pin) row.care) (bit_worth (n - 1 - pin) row.value) wanted)
    (some_row_asks n rows pin wanted h)

-- ---- each row of a table has a literal a pin

pub sized-literals_of_each : (n : ℕ) (rows : List Row01) → All (λ row. length row ≡ n) (literals_of_each n rows)
sized-literals_of_each n [] = λ k d h. absurd (omega arith)
sized-literals_of_each n (row ∷ rows) =
    All-cons (λ row. length row ≡ n) (literals n row.care row.value) (literals_of_each n rows)
    (length-literals n row.care row.value) (sized-literals_of_each n rows)

-- ---- the row back from its literals

-- the bit that the literal asks for
abbrev pub wanted_bit : Literal → Bool
wanted_bit Free = false
wanted_bit (Wants wanted) = wanted

-- the row that has these literals
abbrev pub row_with : List Literal → Row01
row_with row = record { care = binary (map wants_bit row); value = binary (map wanted_bit row) }

wants_bit-literal : (care value : Bool) → wants_bit (literal care value) ≡ care
wants_bit-literal true value = refl
wants_bit-literal false value = refl

wanted_bit-literal : (care value : Bool) → wanted_bit (literal care value) ≡ (value && care)
wanted_bit-literal true true = refl
wanted_bit-literal true false = refl
wanted_bit-literal false true = refl
wanted_bit-literal false false = refl

map-wants_bit : (n care value : ℕ) → map wants_bit (literals n care value) ≡ bits_of n care
map-wants_bit zero care value = refl
map-wants_bit (suc n) care value =
    ap₂ (λ b bits. b ∷ bits) (wants_bit-literal (bit_worth n care) (bit_worth n value)) (map-wants_bit n care value)

map-wanted_bit : (n care value : ℕ) → map wanted_bit (literals n care value) ≡ bits_of n (bit_and value care)
map-wanted_bit zero care value = refl
map-wanted_bit (suc n) care value =
    ap₂ (λ b bits. b ∷ bits)
    (wanted_bit-literal (bit_worth n care) (bit_worth n value) ∙ sym (bit_worth-and n value care))
    (map-wanted_bit n care value)

-- the value of a row is as narrow as what it reads
pub narrow-value : (n : ℕ) (row : Row01) → IsRow n row → row.value < 2 ^ n
narrow-value n row h =
    let below : bit_and row.value row.care ≤ row.care = and_le_r row.value row.care in
    let e : bit_and row.value row.care ≡ row.value = h.within in
    let narrow : row.care < 2 ^ n = h.narrow in
    omega arith

-- the row that is made of a row's literals is that row
pub row_with-literals : (n : ℕ) (row : Row01) → IsRow n row → row_with (literals_of n row) ≡ row
row_with-literals n row h =
    let care : binary (map wants_bit (literals n row.care row.value)) ≡ row.care =
    ap binary (map-wants_bit n row.care row.value) ∙ binary-bits_of n row.care h.narrow in
    let value : binary (map wanted_bit (literals n row.care row.value)) ≡ row.value =
    ap binary (map-wanted_bit n row.care row.value)
    ∙ (ap (λ x. binary (bits_of n x)) h.within ∙ binary-bits_of n row.value (narrow-value n row h)) in
    let made : ℕ → ℕ → Row01 = λ c v. record { care = c; value = v } in
    ap₂ made care value

map-row_with : (n : ℕ) (rows : List Row01) → All (IsRow n) rows → map row_with (literals_of_each n rows) ≡ rows
map-row_with n [] h = refl
map-row_with n (row ∷ rows) h =
    ap₂ (λ r rs. r ∷ rs)
    (row_with-literals n row (h 0 row (omega arith)))
    (map-row_with n rows (All-tail (IsRow n) row rows h))

-- rows with the same literals are the same rows
pub same_row : (n : ℕ) (a b : Row01) → IsRow n a → IsRow n b → literals_of n a ≡ literals_of n b → a ≡ b
same_row n a b h g e = sym (row_with-literals n a h) ∙ (ap row_with e ∙ row_with-literals n b g)

pub same_rows : (n : ℕ) (a b : List Row01) → All (IsRow n) a → All (IsRow n) b → literals_of_each n a ≡ literals_of_each n b → a ≡ b
same_rows n a b h g e = sym (map-row_with n a h) ∙ (ap (map row_with) e ∙ map-row_with n b g)

-- ---- a cover that is kept as numbers

equal-or-not : (some on : Bool) → beq some on ≡ (if on then some else not some)
equal-or-not true true = refl
equal-or-not true false = refl
equal-or-not false true = refl
equal-or-not false false = refl

pub truth-table_of : (n : ℕ) (on : Bool) (rows : List Row01) (read : ℕ) → All (IsRow n) rows → truth (table_of n on rows) (bits_of n read) ≡ beq (list_any (λ (row : Row01). eqb (bit_and (bit_xor read row.value) row.care) 0) rows) on
truth-table_of n on rows read h =
    sym (equal-or-not (some_row_matches (literals_of_each n rows) (bits_of n read)) on)
    ∙ ap (λ some. beq some on) (some_row_matches-bits_of n rows read h)

pub wrong_sign-table_of : (n : ℕ) (on : Bool) (rows : List Row01) (pin : ℕ) → pin < n → wrong_sign (table_of n on rows) pin ≡ list_any (λ (row : Row01). bit_worth (n - 1 - pin) row.care && same (bit_worth (n - 1 - pin) row.value) (not on)) rows
wrong_sign-table_of n on rows pin h = some_row_asks n rows pin (not on) h

-- comparing both numbers decides whether two rows are the same
pub row-Decides : (a b : Row01) → Decides (eqb a.care b.care && eqb a.value b.value) (a ≡ b)
row-Decides a b = (λ h. same-parts h, λ e. and_from _ _ (eq-eqb a.care b.care (ap care_of e)) (eq-eqb a.value b.value (ap value_of e)))
  where
    care_of : Row01 → ℕ
    care_of row = row.care

    value_of : Row01 → ℕ
    value_of row = row.value

    made : ℕ → ℕ → Row01
    made c v = record { care = c; value = v }

    same-parts : (eqb a.care b.care && eqb a.value b.value) ≡ true → a ≡ b
    same-parts h =
        let parts : (eqb a.care b.care ≡ true) × (eqb a.value b.value ≡ true) = and_parts _ _ h in
        ap₂ (λ c v. made c v) (eqb-true a.care b.care parts.0) (eqb-true a.value b.value parts.1)

-- covers that are kept as numbers are the same table exactly where their rows are the same
pub table_of-Decides : (n m : ℕ) (on off : Bool) (a b : List Row01) → n ≡ m → on ≡ off → All (IsRow n) a → All (IsRow m) b → (r : Bool) → Decides r (a ≡ b) → Decides r (table_of n on a ≡ table_of m off b)
table_of-Decides n m on off a b same_width same_on h g r d = (
  λ t. ap₂ (λ k rows. table_of k on rows) same_width (d.0 t) ∙ ap (λ o. table_of m o b) same_on,
  λ e. d.1 (same_rows n a b h (rw same_width g) (ap rows_of e ∙ ap (λ k. literals_of_each k b) (sym same_width))),
)
  where
    rows_of : CoverTable → List (List Literal)
    rows_of c = c.rows

-- ---- one more pin at the end

weights-within : (care value : Bool) → (IsTrue value → IsTrue care) → bit_and (weight_of value) (weight_of care) ≡ weight_of value
weights-within true true h = refl
weights-within true false h = refl
weights-within false true h = absurd (false≢true (h refl))
weights-within false false h = refl

pub IsRow-last : (n : ℕ) (row : Row01) (care value : Bool) → (IsTrue value → IsTrue care) → IsRow n row → IsRow (n + 1) (record { care = row.care * 2 + weight_of care; value = row.value * 2 + weight_of value })
IsRow-last n row care value asked h = record {
  within =
      and_block 1 row.value row.care (weight_of value) (weight_of care) (weight_of-lt value) (weight_of-lt care)
      ∙ ap₂ (λ v w. v * 2 + w) h.within (weights-within care value asked);
  narrow =
      let narrow : row.care < 2 ^ n = h.narrow in
      let low : weight_of care < 2 = weight_of-lt care in
      let p : 2 ^ suc n ≡ 2 ^ n * 2 = pow-suc 2 n in
      let wider : row.care * 2 + weight_of care < 2 ^ suc n = omega arith in
      rw add-one wider;
}

pub literals-next : (n care value : ℕ) (c v : Bool) (w x : ℕ) → w ≡ weight_of c → x ≡ weight_of v → literals (n + 1) (care * 2 + w) (value * 2 + x) ≡ literals n care value ++ literal c v ∷ []
literals-next n care value c v w x e f =
    ap (λ k. literals k (care * 2 + w) (value * 2 + x)) (add-one n)
    ∙ (ap₂ (λ a b. literals (suc n) (care * 2 + a) (value * 2 + b)) e f ∙ literals-last n care value c v)

pub IsRow-next : (n : ℕ) (row : Row01) (care value : Bool) (w x : ℕ) → w ≡ weight_of care → x ≡ weight_of value → (IsTrue value → IsTrue care) → IsRow n row → IsRow (n + 1) (record { care = row.care * 2 + w; value = row.value * 2 + x })
IsRow-next n row care value w x e f asked h = rw (e, f) (IsRow-last n row care value asked h)

-- a bit of a program as a number
pub bool_byte-weight_of : (b : Bool) → bool_byte b ≡ weight_of b
bool_byte-weight_of true = refl
bool_byte-weight_of false = refl
