-- Numbers and their digits, digit by digit: a word that is read as a number, and a number that is written and read again.
use Rattle.std.proofs.Common.{◌≡◌, ℕ, ◌+◌, ◌-◌, ◌*◌, ◌/◌, ◌%◌, ◌^◌, ◌<◌, ◌≤◌, Bool, true, false, cond, ◌&&◌, List, [], ◌∷◌, ◌++◌, drop, length, set, Option, None, Some, refl, sym, ap, ◌∙◌, append_assoc, arith, lit<, rules, length-append, length-drop}
use Rattle.std.specs.List.{list_all}
use Rattle.std.specs.Fmt.{decimal}
use Rattle.std.proofs.Math.Dec.{ltb, leb}
use Rattle.std.proofs.lemmas.Bool.{ltb-true, ltb-false, lt-ltb, le-leb, le-ltb}
use Rattle.std.proofs.lemmas.List.{drop-set, length-set}
use Rattle.std.proofs.lemmas.Fmt.{decimal_step, decimal_digit, decimal_nonempty, length-decimal-le, digits_decimal, digits_value-decimal}
use Rattle.std.proofs.lemmas.Str.Parse.{IsNumeralModel, numerals_by_fold}
use Rattle.tsc_text.specs.Number.{is_digit, number_of, value_from, value_of, value_with}
use Rattle.tsc_text.proofs.ReaderSteps.{by_test}

-- the number that the digits behind those of value `n` make, if they are digits and it is below 2^64
pub number_from : ℕ → List ℕ → Option ℕ
number_from n bs = cond (list_all is_digit bs && ltb (value_from n bs) (2 ^ 64)) (Some (value_from n bs)) None

-- the value does not fall
value_from-le : (n : ℕ) (bs : List ℕ) → n ≤ value_from n bs
value_from-le n [] = omega arith
value_from-le n (b ∷ bs) = let h : 10 * n + (b - 48) ≤ value_from (10 * n + (b - 48)) bs = value_from-le (10 * n + (b - 48)) bs in omega arith

some-same : (m n : ℕ) → Some m ≡ Some n → m ≡ n
some-same m n e = cc

-- one more digit
pub number_from-digit : (n b : ℕ) (bs : List ℕ) (m : ℕ) → Some m ≡ value_with n b → number_from n (b ∷ bs) ≡ number_from m bs
unfolding number_from
number_from-digit n b bs m e =
    let M : ℕ = 10 * n + (b - 48) in
    by_test (is_digit b) (λ v. Some m ≡ cond (v && ltb M (2 ^ 64)) (Some M) None → cond ((v && list_all is_digit bs) && ltb (value_from M bs) (2 ^ 64)) (Some (value_from M bs)) None ≡ cond (list_all is_digit bs && ltb (value_from m bs) (2 ^ 64)) (Some (value_from m bs)) None)
    (λ _. by_test (ltb M (2 ^ 64)) (λ v. Some m ≡ cond v (Some M) None → cond (list_all is_digit bs && ltb (value_from M bs) (2 ^ 64)) (Some (value_from M bs)) None ≡ cond (list_all is_digit bs && ltb (value_from m bs) (2 ^ 64)) (Some (value_from m bs)) None)
    (λ _ h. ap (λ (x : ℕ). cond (list_all is_digit bs && ltb (value_from x bs) (2 ^ 64)) (Some (value_from x bs)) None) (sym (some-same m M h)))
    (λ _ h. cc))
    (λ _ h. cc)
    e

pub value_with-below : (n b m : ℕ) → Some m ≡ value_with n b → m < 2 ^ 64
value_with-below n b m e =
    let M : ℕ = 10 * n + (b - 48) in
    by_test (is_digit b) (λ v. Some m ≡ cond (v && ltb M (2 ^ 64)) (Some M) None → m < 2 ^ 64)
    (λ _. by_test (ltb M (2 ^ 64)) (λ v. Some m ≡ cond v (Some M) None → m < 2 ^ 64)
    (λ t h. let lt : M < 2 ^ 64 = ltb-true M (2 ^ 64) t in let same : m ≡ M = some-same m M h in omega arith)
    (λ _ h. cc))
    (λ _ h. cc)
    e

and-false : (a : Bool) → (a && false) ≡ false
and-false true = refl
and-false false = refl

-- no digit, or too large a value
pub number_from-none : (n b : ℕ) (bs : List ℕ) → None ≡ value_with n b → number_from n (b ∷ bs) ≡ None
unfolding number_from
number_from-none n b bs e =
    let M : ℕ = 10 * n + (b - 48) in
    by_test (is_digit b) (λ v. None ≡ cond (v && ltb M (2 ^ 64)) (Some M) None → cond ((v && list_all is_digit bs) && ltb (value_from M bs) (2 ^ 64)) (Some (value_from M bs)) None ≡ None)
    (λ _. by_test (ltb M (2 ^ 64)) (λ v. None ≡ cond v (Some M) None → cond (list_all is_digit bs && ltb (value_from M bs) (2 ^ 64)) (Some (value_from M bs)) None ≡ None)
    (λ _ h. cc)
    (λ t h. let large : 2 ^ 64 ≤ M = ltb-false M (2 ^ 64) t in
    let rises : M ≤ value_from M bs = value_from-le M bs in
    let f : ltb (value_from M bs) (2 ^ 64) ≡ false = le-ltb (value_from M bs) (2 ^ 64) (omega arith) in
    ap (λ (v : Bool). cond (list_all is_digit bs && v) (Some (value_from M bs)) None) f ∙ ap (λ (v : Bool). cond v (Some (value_from M bs)) None) (and-false (list_all is_digit bs))))
    (λ _ h. refl)
    e

pub number_from-end : (n : ℕ) → n < 2 ^ 64 → number_from n [] ≡ Some n
unfolding number_from
number_from-end n h = ap (λ (v : Bool). cond v (Some n) None) (lt-ltb n (2 ^ 64) h)

-- a word of 1 to 20 bytes
pub number_of-from : (word : List ℕ) → 0 < length word → length word ≤ 20 → number_of word ≡ number_from 0 word
unfolding number_from
number_of-from word h k =
    ap (λ (v : Bool). cond ((v && leb (length word) 20) && (list_all is_digit word && ltb (value_of word) (2 ^ 64))) (Some (value_of word)) None) (le-leb 1 (length word) (omega arith))
    ∙ ap (λ (v : Bool). cond (v && (list_all is_digit word && ltb (value_of word) (2 ^ 64))) (Some (value_of word)) None) (le-leb (length word) 20 k)

-- what the loop over the digits keeps
pub record AreWritten (value rest start : ℕ) (bytes : List ℕ) : Type 0 where
  pub size : length bytes ≡ 20
  pub digits : decimal rest ++ drop start bytes ≡ decimal value
  pub room : start ≤ 20
  pub small : rest < 2 ^ 64

pub written-room : (value rest start : ℕ) (bytes : List ℕ) → value < 2 ^ 64 → AreWritten value rest start bytes → 0 < start
written-room value rest start bytes v h =
    let some : 0 < length (decimal rest) = decimal_nonempty rest h.small in
    let most : length (decimal value) ≤ 20 = length-decimal-le 20 value (lit< tt) (omega arith) v in
    let e : length (decimal rest) + length (drop start bytes) ≡ length (decimal value) = sym (length-append (decimal rest) (drop start bytes)) ∙ ap length h.digits in
    omega (arith, h.size, length-drop start bytes)

pub written-step : (value rest start : ℕ) (bytes : List ℕ) → value < 2 ^ 64 → 10 ≤ rest → AreWritten value rest start bytes → AreWritten value (rest / 10) (start - 1) (set bytes (start - 1) (48 + rest % 10))
written-step value rest start bytes v ten h =
    let room : 0 < start = written-room value rest start bytes v h in
    let within : start - 1 < length bytes = omega (arith, h.size, h.room) in
    let e : start - 1 + 1 ≡ start = omega arith in
    record {
      size = length-set bytes (start - 1) (48 + rest % 10) ∙ h.size;
      digits = ap (λ (x : List ℕ). decimal (rest / 10) ++ x) (drop-set bytes (start - 1) (48 + rest % 10) within ∙ ap (λ (n : ℕ). (48 + rest % 10) ∷ drop n bytes) e)
          ∙ sym (append_assoc (decimal (rest / 10)) ((48 + rest % 10) ∷ []) (drop start bytes))
          ∙ ap (λ (x : List ℕ). x ++ drop start bytes) (sym (decimal_step rest ten h.small)) ∙ h.digits;
      room = omega (arith, h.room);
      small = omega (arith, h.small);
    }

pub written-end : (value rest start : ℕ) (bytes : List ℕ) → value < 2 ^ 64 → rest < 10 → AreWritten value rest start bytes → drop (start - 1) (set bytes (start - 1) (48 + rest)) ≡ decimal value
written-end value rest start bytes v ten h =
    let room : 0 < start = written-room value rest start bytes v h in
    let within : start - 1 < length bytes = omega (arith, h.size, h.room) in
    let e : start - 1 + 1 ≡ start = omega arith in
    drop-set bytes (start - 1) (48 + rest) within ∙ ap (λ (n : ℕ). (48 + rest) ∷ drop n bytes) e
    ∙ ap (λ (x : List ℕ). x ++ drop start bytes) (sym (decimal_digit rest ten)) ∙ h.digits

-- a written number is read again
own : IsNumeralModel (λ ds. list_all is_digit ds ≡ true) (value_from 0)
own = numerals_by_fold _ (search rules) value_from (search rules)

pub number_of-decimal : (n : ℕ) → n < 2 ^ 64 → number_of (decimal n) ≡ Some n
unfolding number_from
number_of-decimal n h =
    let digits : list_all is_digit (decimal n) ≡ true = digits_decimal own n h in
    let value : value_from 0 (decimal n) ≡ n = digits_value-decimal own n h in
    number_of-from (decimal n) (decimal_nonempty n h) (length-decimal-le 20 n (lit< tt) (omega arith) h)
    ∙ ap (λ (v : Bool). cond (v && ltb (value_from 0 (decimal n)) (2 ^ 64)) (Some (value_from 0 (decimal n))) None) digits
    ∙ ap (λ (x : ℕ). cond (ltb x (2 ^ 64)) (Some x) None) value
    ∙ ap (λ (v : Bool). cond v (Some n) None) (lt-ltb n (2 ^ 64) h)
