-- A text can hold a fresh name, and a name of a letter and a number.
use Rattle.std.proofs.Common.{◌≡◌, ℕ, zero, suc, ◌+◌, ◌^◌, ◌<◌, ◌≤◌, Bool, true, false, if◌then◌else◌, List, [], ◌∷◌, length, map, All, refl, arith, length-append, get_or}
use Rattle.std.specs.Fmt.{decimal}
use Rattle.std.specs.List.{list_all, range_with_len}
use Rattle.std.specs.Str.Parse.{AllDigits}
use Rattle.std.proofs.lemmas.Bool.{and_from}
use Rattle.std.proofs.lemmas.Fmt.{decimal_is_IsNumeral, length-decimal-le}
use Rattle.std.proofs.lemmas.List.Elements.{All-from_get_or, All-map}
use Rattle.std.proofs.lemmas.List.FromFn.{get_or-range_with_len, length-range_with_len}
use Rattle.std.proofs.lemmas.Str.Parse.{digit_from_value}
use Rattle.tsc_text.proofs.Written.{list_all-append}
use Rattle.tsc_net.specs.Parts.{fresh_prefix, fresh_text, free_number, free_number_from, is_taken}
use Rattle.blif_write.specs.Writable.{IsGoodName}
use Rattle.blif_write.proofs.NameBytes.{is_name_byte, name_good}

-- a digit may stand in a name
digit_byte : (b : ℕ) → 48 ≤ b → b ≤ 57 → is_name_byte b ≡ true
digit_byte b low high = grind arith

digit_bytes : (digits : List ℕ) → AllDigits 10 digits → list_all is_name_byte digits ≡ true
digit_bytes [] h = refl
digit_bytes (b ∷ digits) h =
    let range = digit_from_value b h.0 in
    and_from (is_name_byte b) (list_all is_name_byte digits) (digit_byte b (omega (arith, range)) (omega (arith, range))) (digit_bytes digits h.1)

decimal_bytes : (n : ℕ) → n < 2 ^ 64 → list_all is_name_byte (decimal n) ≡ true
decimal_bytes n small = digit_bytes (decimal n) (decimal_is_IsNumeral n small).0.1

-- a number below 2 ^ 64 has at most 20 digits
decimal_short : (n : ℕ) → n < 2 ^ 64 → length (decimal n) ≤ 20
decimal_short n small = length-decimal-le 20 n (omega arith) (omega arith) small

-- a text can hold a letter and a number
pub numbered_good : (letter n : ℕ) → is_name_byte letter ≡ true → n < 2 ^ 64 → IsGoodName (letter ∷ decimal n)
numbered_good letter n e small =
    let short = decimal_short n small in
    name_good (letter ∷ decimal n) (omega arith) (omega (arith, short)) (and_from (is_name_byte letter) (list_all is_name_byte (decimal n)) e (decimal_bytes n small))

-- and a fresh name
pub fresh_good : (number count : ℕ) → number < 2 ^ 64 → count < 2 ^ 64 → IsGoodName (fresh_text number count)
fresh_good number count low small =
    name_good (fresh_text number count) (omega (arith, long)) (omega (arith, long, decimal_short number low, decimal_short count small)) bytes
  where
    long : length (fresh_text number count) ≡ length (decimal number) + 2 + length (decimal count)
    long = omega (arith, length-append (fresh_prefix number) (decimal count), length-append (116 ∷ decimal number) (95 ∷ []))

    prefix : list_all is_name_byte (fresh_prefix number) ≡ true
    prefix = list_all-append is_name_byte (116 ∷ decimal number) (95 ∷ []) (and_from (is_name_byte 116) (list_all is_name_byte (decimal number)) refl (decimal_bytes number low)) refl

    bytes : list_all is_name_byte (fresh_text number count) ≡ true
    bytes = list_all-append is_name_byte (fresh_prefix number) (decimal count) prefix (decimal_bytes count small)

-- and the first fresh names, so many of them
pub all_fresh_good : (number count : ℕ) → number < 2 ^ 64 → count ≤ 2 ^ 64 → All IsGoodName (map (fresh_text number) (range_with_len 0 count))
all_fresh_good number count low few =
    All-map IsGoodName (fresh_text number) (range_with_len 0 count)
    (All-from_get_or (λ k. IsGoodName (fresh_text number k)) (range_with_len 0 count) 0 (λ k h.
    let counted = length-range_with_len 0 count in
    let at : get_or (range_with_len 0 count) k 0 ≡ 0 + k = get_or-range_with_len 0 count k 0 (omega (arith, h, counted)) in
    fresh_good number (get_or (range_with_len 0 count) k 0) low (omega (arith, h, counted, at, few))))

-- the search for the number of the fresh names goes on as often as it may
free_from : (names : List (List ℕ)) (tries number : ℕ) → free_number_from names tries number ≤ number + tries
free_from names zero number = omega arith
free_from names (suc tries) number = by (is_taken names number) (free_from names tries (number + 1))
  where
    by : (b : Bool) → free_number_from names tries (number + 1) ≤ number + 1 + tries
        → (if b then free_number_from names tries (number + 1) else number) ≤ number + suc tries
    by true rest = omega (arith, rest)
    by false rest = omega arith

-- so the number is at most that of the names
pub free_small : (names : List (List ℕ)) → length names < 2 ^ 32 → free_number names < 2 ^ 64
free_small names few = let most = free_from names (length names) 0 in omega (arith, few, most)
