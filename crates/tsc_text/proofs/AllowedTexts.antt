-- Texts whose bytes are all allowed, and written lines one after the other.
use Rattle.std.proofs.Common.{◌≡◌, ℕ, ◌+◌, ◌^◌, ◌<◌, nat_le, nat_lt, Bool, true, false, cond, ◌&&◌, List, [], ◌∷◌, ◌++◌, length, Some, None, refl, ap, ap₂, ◌∙◌, arith}
use Rattle.std.specs.List.{list_all}
use Rattle.std.specs.Fmt.{decimal}
use Rattle.std.proofs.lemmas.Bool.{and_parts}
use Rattle.std.proofs.lemmas.List.Folds.{list_all-append}
use Rattle.tsc_text.specs.Bytes.{is_allowed, bad_line_from, number_after}
use Rattle.tsc_text.specs.Number.{is_digit, is_number, value_of}
use Rattle.tsc_text.specs.TextLine.{TextLine}
use Rattle.tsc_text.specs.Written.{WrittenLine, numbered}
use Rattle.tsc_text.proofs.AllowedWords.{IsAllowed}
use Rattle.tsc_text.proofs.Digits.{number_of-decimal}
use Rattle.tsc_text.proofs.Written.{Both, both}

-- two texts of allowed bytes make one of allowed bytes
pub IsAllowed-append : (xs ys : List ℕ) → IsAllowed xs → IsAllowed ys → IsAllowed (xs ++ ys)
IsAllowed-append xs ys h k = list_all-append is_allowed xs ys ∙ ap₂ (λ a b. a && b) h k

-- such a text has no line with a byte that a text may not hold
pub bad_line_from-none : (number : ℕ) (bytes : List ℕ) → IsAllowed bytes → bad_line_from number bytes ≡ None
bad_line_from-none number [] h = refl
bad_line_from-none number (b ∷ bytes) h =
    let parts : Both (is_allowed b) (list_all is_allowed bytes) = both _ _ h in
    ap (λ (v : Bool). cond v (bad_line_from (number_after number b) bytes) (Some number)) parts.left ∙ bad_line_from-none (number_after number b) bytes parts.right

-- the digits of a number
pub decimal_digits : (n : ℕ) → n < 2 ^ 64 → list_all is_digit (decimal n) ≡ true
decimal_digits n h = by (is_number (decimal n)) refl (number_of-decimal n h)
  where
    by : (b : Bool) → is_number (decimal n) ≡ b → cond b (Some (value_of (decimal n))) None ≡ Some n → list_all is_digit (decimal n) ≡ true
    by true e f =
        let parts = and_parts (nat_le 1 (length (decimal n)) && nat_le (length (decimal n)) 20) _ e in
        (and_parts (list_all is_digit (decimal n)) (nat_lt (value_of (decimal n)) (2 ^ 64)) parts.1).0
    by false e f = cc

-- lines behind others are numbered on
pub numbered-append : (n : ℕ) (xs ys : List WrittenLine) → numbered n (xs ++ ys) ≡ numbered n xs ++ numbered (n + length xs) ys
numbered-append n [] ys = let e : n ≡ n + 0 = omega arith in ap (λ m. numbered m ys) e
numbered-append n (x ∷ xs) ys =
    let e : n + 1 + length xs ≡ n + length (x ∷ xs) = omega arith in
    ap (λ (lines : List TextLine). record { number = n; is_plan = x.is_plan; words = x.words } ∷ lines) (numbered-append (n + 1) xs ys ∙ ap (λ m. numbered (n + 1) xs ++ numbered m ys) e)
