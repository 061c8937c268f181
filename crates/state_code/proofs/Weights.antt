-- The words of one weight: how many there are, that they rise, and the first of them.
use Rattle.std.specs.Prelude.{◌≡◌, ℕ, zero, suc, ◌+◌, ◌*◌, ◌%◌, ◌^◌, ◌<◌, ◌≤◌, ◌==◌, Bool, true, false, cond, List, [], ◌∷◌, ◌++◌, map, length, take, filter, count_by, get_or, All, refl}
use Rattle.std.specs.List.{range_with_len, AllPairs}
use Rattle.std.proofs.Common.{sym, ◌∙◌, ap, ap₂, arith, pow-suc}
use Rattle.std.proofs.lemmas.Nat.{mod_low}
use Rattle.std.proofs.lemmas.Bool.{eqb-true}
use Rattle.std.proofs.lemmas.List.{append-nil, length-append, length-map, length-take, length-take-le, get_or-map, get_or-take, take_all, take-append-le, map-id}
use Rattle.std.proofs.lemmas.List.Elements.{filter_passes, All-filter, All-take, All-map, filter-append}
use Rattle.std.proofs.lemmas.List.Kept.{AllPairs-filter}
use Rattle.std.proofs.lemmas.List.Sums.{length-filter, sum_by-cons}
use Rattle.std.proofs.lemmas.List.FromFn.{length-range_with_len, get_or-range_with_len, map-range_with_len_more}
use Rattle.tsc_bits.specs.Bits.{weight_of, bit_worth, bits_of}
use Rattle.tsc_bits.specs.Counting.{ones}
use Rattle.tsc_bits.proofs.Bits.{bit_worth-front, bits_of-mod, length-bits_of, same_from_bits_of}
use Rattle.tsc_bits.proofs.Counting.{ones-cons}
use Rattle.state_code.specs.Words.{binomial, has_weight, words_of_weight, state_words, AreStateWords}
use Rattle.tsc_bits.proofs.Lists.{none_counted}

-- ---- counts over ranges

count-cons : (f : ℕ → Bool) (a q : ℕ) → count_by f (range_with_len a (suc q)) ≡ cond (f a) 1 0 + count_by f (range_with_len (a + 1) q)
count-cons f a q = sum_by-cons (λ (w : ℕ). cond (f w) 1 0) a (range_with_len (a + 1) q)

count_same : (f g : ℕ → Bool) (a q : ℕ) → ((w : ℕ) → w < a + q → f w ≡ g w) → count_by f (range_with_len a q) ≡ count_by g (range_with_len a q)
count_same f g a zero h = refl
count_same f g a (suc q) h =
    let below : a < a + suc q = omega arith in
    count-cons f a q
    ∙ ap₂ (λ (b : Bool) (k : ℕ). cond b 1 0 + k) (h a below) (count_same f g (a + 1) q (λ w lt. h w (omega arith)))
    ∙ sym (count-cons g a q)

count_shift : (f : ℕ → Bool) (a d q : ℕ) → count_by f (range_with_len (a + d) q) ≡ count_by (λ w. f (w + d)) (range_with_len a q)
count_shift f a d zero = refl
count_shift f a d (suc q) =
    let e : a + d + 1 ≡ a + 1 + d = omega arith in
    count-cons f (a + d) q
    ∙ ap (λ (b : ℕ). cond (f (a + d)) 1 0 + count_by f (range_with_len b q)) e
    ∙ ap (λ (k : ℕ). cond (f (a + d)) 1 0 + k) (count_shift f (a + 1) d q)
    ∙ sym (count-cons (λ (w : ℕ). f (w + d)) a q)

count_split : (f : ℕ → Bool) (a p q : ℕ) → count_by f (range_with_len a (p + q)) ≡ count_by f (range_with_len a p) + count_by f (range_with_len (a + p) q)
count_split f a zero q =
    let none : zero + q ≡ q = omega arith in
    let here : a ≡ a + zero = omega arith in
    ap (λ (k : ℕ). count_by f (range_with_len a k)) none
    ∙ ap (λ (b : ℕ). count_by f (range_with_len b q)) here
    ∙ omega arith
count_split f a (suc p) q =
    let more : suc p + q ≡ suc (p + q) = omega arith in
    let here : a + 1 + p ≡ a + suc p = omega arith in
    let rest = count_split f (a + 1) p q in
    ap (λ (k : ℕ). count_by f (range_with_len a k)) more
    ∙ count-cons f a (p + q)
    ∙ ap (λ (k : ℕ). cond (f a) 1 0 + k) rest
    ∙ ap (λ (b : ℕ). cond (f a) 1 0 + (count_by f (range_with_len (a + 1) p) + count_by f (range_with_len b q))) here
    ∙ omega (arith, count-cons f a p)

-- ---- one bit more in front

weight_low : (n w : ℕ) → w < 2 ^ n → ones (bits_of (suc n) w) ≡ ones (bits_of n w)
weight_low n w lt =
    let same : w ≡ weight_of false * 2 ^ n + w = omega arith in
    let front : bit_worth n w ≡ false = ap (bit_worth n) same ∙ bit_worth-front false n w lt in
    ap (λ (b : Bool). ones (b ∷ bits_of n w)) front ∙ omega (arith, ones-cons false (bits_of n w))

weight_high : (n w : ℕ) → w < 2 ^ n → ones (bits_of (suc n) (w + 2 ^ n)) ≡ ones (bits_of n w) + 1
weight_high n w lt =
    let same : w + 2 ^ n ≡ weight_of true * 2 ^ n + w = omega arith in
    let front : bit_worth n (w + 2 ^ n) ≡ true = ap (bit_worth n) same ∙ bit_worth-front true n w lt in
    let back : bits_of n (w + 2 ^ n) ≡ bits_of n w =
    sym (bits_of-mod n (w + 2 ^ n)) ∙ ap (λ (x : ℕ). bits_of n (x % 2 ^ n)) same ∙ ap (bits_of n) (mod_low (weight_of true) n w lt) in
    ap₂ (λ (b : Bool) (bits : List Bool). ones (b ∷ bits)) front back ∙ omega (arith, ones-cons true (bits_of n w))

weight_halves : (n m : ℕ) → count_by (has_weight (suc n) m) (range_with_len 0 (2 ^ suc n))
    ≡ count_by (has_weight n m) (range_with_len 0 (2 ^ n)) + count_by (λ w. ones (bits_of n w) + 1 == m) (range_with_len 0 (2 ^ n))
weight_halves n m =
    let f = has_weight (suc n) m in
    let p = 2 ^ n in
    let twice : 2 ^ suc n ≡ 2 ^ n + 2 ^ n = omega (arith, pow-suc 2 n) in
    ap (λ (k : ℕ). count_by f (range_with_len 0 k)) twice
    ∙ count_split f 0 (2 ^ n) (2 ^ n)
    ∙ ap₂ (λ (j k : ℕ). j + k)
    (count_same f (has_weight n m) 0 (2 ^ n) (λ w lt. ap (λ (k : ℕ). k == m) (weight_low n w (omega arith))))
    (count_shift f 0 (2 ^ n) (2 ^ n)
    ∙ count_same (λ w. f (w + 2 ^ n)) (λ w. ones (bits_of n w) + 1 == m) 0 (2 ^ n) (λ w lt. ap (λ (k : ℕ). k == m) (weight_high n w (omega arith))))

more_than_none : (k : ℕ) → (k + 1 == 0) ≡ false
more_than_none k = grind arith

one_more : (k m : ℕ) → (k + 1 == suc m) ≡ (k == m)
one_more k m = grind arith

pub weights_counted : (n m : ℕ) → count_by (has_weight n m) (range_with_len 0 (2 ^ n)) ≡ binomial n m
weights_counted zero zero = refl
weights_counted zero (suc m) = let differs : (0 == suc m) ≡ false = grind arith in ap (λ (b : Bool). 0 + cond b 1 0) differs
weights_counted (suc n) zero =
    let past = count_same (λ w. ones (bits_of n w) + 1 == 0) (λ w. false) 0 (2 ^ n) (λ w lt. more_than_none (ones (bits_of n w))) in
    weight_halves n zero ∙ omega (arith, weights_counted n zero, past, none_counted 0 (2 ^ n))
weights_counted (suc n) (suc m) =
    let past = count_same (λ w. ones (bits_of n w) + 1 == suc m) (has_weight n m) 0 (2 ^ n) (λ w lt. one_more (ones (bits_of n w)) m) in
    weight_halves n (suc m) ∙ omega (arith, weights_counted n (suc m), weights_counted n m, past)

-- ---- the words rise

range_rises : (n : ℕ) → AllPairs (λ (x y : ℕ). x < y) (range_with_len 0 n)
range_rises n = λ i j d lt within.
    let in_range : j < n = omega (arith, length-range_with_len 0 n) in
    omega (arith, get_or-range_with_len 0 n i d (omega arith), get_or-range_with_len 0 n j d in_range)

range_within : (n : ℕ) → All (λ (w : ℕ). w < n) (range_with_len 0 n)
range_within n = λ i d within.
    let in_range : i < n = omega (arith, length-range_with_len 0 n) in
    omega (arith, get_or-range_with_len 0 n i d in_range)

-- each word is a number of n bits
pub words_within : (n m states : ℕ) → All (λ (w : ℕ). w < 2 ^ n) (state_words n m states)
words_within n m states =
    All-take (λ (w : ℕ). w < 2 ^ n) states (words_of_weight n m) (All-filter (has_weight n m) (λ (w : ℕ). w < 2 ^ n) (range_with_len 0 (2 ^ n)) (range_within (2 ^ n)))

words_weighed : (n m states : ℕ) → All (λ (w : ℕ). has_weight n m w ≡ true) (state_words n m states)
words_weighed n m states = All-take (λ (w : ℕ). has_weight n m w ≡ true) states (words_of_weight n m) (filter_passes (has_weight n m) (range_with_len 0 (2 ^ n)))

words_counted : (n m states : ℕ) → states ≤ binomial n m → length (state_words n m states) ≡ states
words_counted n m states enough =
    length-take-le states (words_of_weight n m)
    (omega (arith, enough, weights_counted n m, length-filter (has_weight n m) (range_with_len 0 (2 ^ n))))

words_rise : (n m states a b : ℕ) → a < b → b < length (state_words n m states) → get_or (state_words n m states) a 0 < get_or (state_words n m states) b 0
words_rise n m states a b lt within =
    let all = words_of_weight n m in
    let sized = length-take states all in
    let rising = AllPairs-filter (λ (x y : ℕ). x < y) (has_weight n m) (range_with_len 0 (2 ^ n)) (range_rises (2 ^ n)) in
    let pair : get_or all a 0 < get_or all b 0 = rising a b 0 lt (omega (arith, sized, within)) in
    omega (arith, pair, get_or-take states all a 0 (omega (arith, sized, within)), get_or-take states all b 0 (omega (arith, sized, within)))

-- the words of states are what a plan asks
pub state_words_fit : (n m states : ℕ) → states ≤ binomial n m → AreStateWords n m states (map (bits_of n) (state_words n m states))
state_words_fit n m states enough = record {
  count = length-map words (bits_of n) ∙ words_counted n m states enough;
  sized = All-map (λ (bits : List Bool). length bits ≡ n) (bits_of n) words (λ i d lt. length-bits_of n (get_or words i d));
  weighed = All-map (λ (bits : List Bool). ones bits ≡ m) (bits_of n) words (λ i d lt. eqb-true (ones (bits_of n (get_or words i d))) m (words_weighed n m states i d lt));
  distinct = λ a b lt within same.
      let below : b < length words = omega (arith, within, length-map words (bits_of n)) in
      let rises = words_rise n m states a b lt below in
      let equal : get_or words a 0 ≡ get_or words b 0 =
      same_from_bits_of n (get_or words a 0) (get_or words b 0)
      (words_within n m states a 0 (omega arith)) (words_within n m states b 0 below)
      (sym (get_or-map (bits_of n) words a 0 [] (omega arith)) ∙ same ∙ get_or-map (bits_of n) words b 0 [] below) in
      omega (arith, rises, equal);
}
  where
    words : List ℕ
    words = state_words n m states

-- ---- the first words, one number at a time

-- the numbers below the next one that pass a test
pub filter-next : (p : ℕ → Bool) (j : ℕ) → filter p (range_with_len 0 (j + 1)) ≡ filter p (range_with_len 0 j) ++ cond (p j) (j ∷ []) []
filter-next p j =
    let next : range_with_len 0 (j + 1) ≡ range_with_len 0 j ++ j ∷ [] =
    sym (map-id (range_with_len 0 (j + 1))) ∙ map-range_with_len_more (λ (w : ℕ). w) 0 j j (omega arith) ∙ ap (λ (ws : List ℕ). ws ++ j ∷ []) (map-id (range_with_len 0 j)) in
    ap (filter p) next ∙ filter-append p (range_with_len 0 j) (j ∷ [])

-- a list of which all was taken takes one item more
pub take_room : (k : ℕ) (xs : List ℕ) (x : ℕ) → length (take k xs) < k → take k (xs ++ x ∷ []) ≡ take k xs ++ x ∷ []
take_room k xs x lt =
    let short : length xs < k = omega (arith, length-take k xs) in
    take_all k (xs ++ x ∷ []) (omega (arith, length-append xs (x ∷ []))) ∙ ap (λ (ys : List ℕ). ys ++ x ∷ []) (sym (take_all k xs (omega arith)))

-- and once so many were taken no more are
pub take_full : (k : ℕ) (xs ys : List ℕ) → k ≤ length (take k xs) → take k (xs ++ ys) ≡ take k xs
take_full k xs ys le = take-append-le k xs ys (omega (arith, length-take k xs))

pub take_none : (k : ℕ) (xs : List ℕ) → take k (xs ++ []) ≡ take k xs
take_none k xs = ap (take k) (append-nil xs)
