-- The rules of a plan as the tests of the reader: the groups, the width of the checks, the words of the states.
use Rattle.std.proofs.Common.{◌≡◌, ℕ, zero, suc, ◌+◌, ◌*◌, ◌^◌, ◌<◌, ◌≤◌, ◌==◌, Bool, true, cond, ◌&&◌, List, [], ◌∷◌, length, map, get_or, refl, sym, ap, ◌∙◌, arith, All, None, if◌then◌else◌, nat_le, nat_lt, count_by, eq-eqb, ne_eqb}
use Rattle.std.specs.List.{list_all}
use Rattle.std.proofs.lemmas.Bool.Decides.{nat_tests}
use Rattle.std.proofs.lemmas.Bool.{and_from, le-leb, lt-ltb}
use Rattle.std.proofs.lemmas.List.{get_or-map, length-map}
use Rattle.std.proofs.lemmas.List.Elements.{All-head, All-tail}
use Rattle.std.proofs.lemmas.List.Sums.{list_all-from_AllPass, sum_by-cons}
use Rattle.fault_secure.specs.CodePlan.{IsBergerWidth, concat_places}
use Rattle.tsc_bits.specs.Counting.{ones}
use Rattle.tsc_net.specs.NetFault.{first_repeat}
use Rattle.blif_read.specs.PlanFault.{are_alike, are_parts, each_once, fits_latches, is_empty, is_none, is_width}
use Rattle.blif_read.specs.PlanText.{bits_of_word, ones_of_word, weight_of}
use Rattle.blif_write.specs.Layout.{word_of_bits}
use Rattle.blif_write.proofs.NetBack.{no-repeat}
use Rattle.blif_write.proofs.StateWords.{bits-back, ones-back}
use Rattle.tsc_bits.proofs.Below.{none_below}

-- one item more to count
count-cons : (p : ℕ → Bool) (x : ℕ) (xs : List ℕ) → count_by p (x ∷ xs) ≡ cond (p x) 1 0 + count_by p xs
count-cons p x xs = sum_by-cons (λ (y : ℕ). cond (p y) 1 0) x xs

-- the places below a bound, by their bound
counted-below : (places : List ℕ) (n : ℕ) → count_by (λ other. nat_lt other (suc n)) places ≡ count_by (λ other. nat_lt other n) places + count_by (λ other. n == other) places
counted-below [] n = omega arith
counted-below (x ∷ places) n =
    let rest = counted-below places n in
    let one = count-cons (λ other. nat_lt other (suc n)) x places in
    let two = count-cons (λ other. nat_lt other n) x places in
    let three = count-cons (λ other. n == other) x places in
    let here : cond {A = ℕ} (nat_lt x (suc n)) 1 0 ≡ cond (nat_lt x n) 1 0 + cond (n == x) 1 0 = grind (arith, nat_tests) in
    omega (arith, rest, one, two, three, here)

all-below : (places : List ℕ) (n : ℕ) → All (λ place. place < n) places → count_by (λ other. nat_lt other n) places ≡ length places
all-below [] n h = refl
all-below (x ∷ places) n h =
    let Low : ℕ → Type 0 = λ place. place < n in
    let rest = all-below places n (All-tail Low x places h) in
    let here = ap (λ b. cond {A = ℕ} b 1 0) (lt-ltb x n (All-head Low x places h)) in
    let one = count-cons (λ other. nat_lt other n) x places in
    omega (arith, rest, here, one)

once-below : (places : List ℕ) (n : ℕ) → ((place : ℕ) → place < n → count_by (λ other. place == other) places ≡ 1) → count_by (λ other. nat_lt other n) places ≡ n
once-below places zero once = none_below places
once-below places (suc n) once =
    let rest = once-below places n (λ place h. once place (omega arith)) in
    let here = once n (omega arith) in
    let step = counted-below places n in
    omega (arith, rest, here, step)

each-once : (places : List ℕ) (n : ℕ) → ((place : ℕ) → place < n → count_by (λ other. place == other) places ≡ 1) → each_once places n ≡ true
each-once places zero once = refl
each-once places (suc n) once =
    and_from (count_by (λ other. n == other) places == 1) (each_once places n) (eq-eqb (count_by (λ other. n == other) places) 1 (once n (omega arith))) (each-once places n (λ place h. once place (omega arith)))

-- groups in which each place below `outputs` stands once, and no other, share them out
pub parts-pass : (outputs : ℕ) (groups : List (List ℕ)) → All (λ place. place < outputs) (concat_places groups)
    → ((place : ℕ) → place < outputs → count_by (λ other. place == other) (concat_places groups) ≡ 1) → are_parts outputs groups ≡ true
parts-pass outputs groups within once =
    let places : List ℕ = concat_places groups in
    and_from (length places == outputs && list_all (λ place. nat_lt place outputs) places) (each_once places outputs)
    (and_from (length places == outputs) (list_all (λ place. nat_lt place outputs) places)
    (eq-eqb (length places) outputs (sym (all-below places outputs within) ∙ once-below places outputs once))
    (list_all-from_AllPass (λ place. nat_lt place outputs) places (λ k d h. lt-ltb (get_or places k d) outputs (within k d h))))
    (each-once places outputs once)

-- the least width passes
pub width-passes : (outputs width : ℕ) → 0 < outputs → IsBergerWidth outputs width → is_width outputs width ≡ true
width-passes outputs zero some h = let few : outputs < 2 ^ 0 = h.0 in absurd (omega arith)
width-passes outputs (suc width) some h =
    and_from (nat_le (2 ^ width) outputs) (nat_lt outputs (2 * 2 ^ width)) (least (h.1 width)) (most h.0)
  where
    least : (outputs < 2 ^ width → suc width ≤ width) → nat_le (2 ^ width) outputs ≡ true
    least below = le-leb (2 ^ width) outputs (grind arith)

    most : outputs < 2 ^ suc width → nat_lt outputs (2 * 2 ^ width) ≡ true
    most below = lt-ltb outputs (2 * 2 ^ width) (grind arith)

-- words of bits, all of that length with that many ones
alike-pass : (latches weight : ℕ) (states : List (List Bool)) → All (λ state. length state ≡ latches) states → All (λ state. ones state ≡ weight) states
    → are_alike latches weight (map word_of_bits states) ≡ true
alike-pass latches weight [] sized weighed = refl
alike-pass latches weight (bits ∷ states) sized weighed =
    let Sized : List Bool → Type 0 = λ state. length state ≡ latches in
    let Weighed : List Bool → Type 0 = λ state. ones state ≡ weight in
    let word : List ℕ = word_of_bits bits in
    and_from (length word == latches && ones_of_word word == weight) (are_alike latches weight (map word_of_bits states))
    (and_from (length word == latches) (ones_of_word word == weight)
    (eq-eqb (length word) latches (length-map bits _ ∙ All-head Sized bits states sized))
    (eq-eqb (ones_of_word word) weight (ones-back bits ∙ All-head Weighed bits states weighed)))
    (alike-pass latches weight states (All-tail Sized bits states sized) (All-tail Weighed bits states weighed))

words-different : (states : List (List Bool)) → ((a b : ℕ) → a < b → b < length states → get_or states a [] ≡ get_or states b [] → ⊥) → first_repeat (map word_of_bits states) ≡ None
words-different states distinct =
    let long = length-map states word_of_bits in
    no-repeat [] (map word_of_bits states) (λ b h. refl) (λ a b below h same.
    let within : b < length states = omega arith in
    let one = get_or-map word_of_bits states a [] [] (omega arith) in
    let other = get_or-map word_of_bits states b [] [] within in
    distinct a b below within
    (sym (bits-back (get_or states a [])) ∙ ap bits_of_word (sym one ∙ same ∙ other) ∙ bits-back (get_or states b [])))

-- the states fit the latches
pub states-pass : (latches weight : ℕ) (states : List (List Bool)) → weight_of (map word_of_bits states) ≡ weight → (latches ≡ 0 → states ≡ []) → (0 < latches → (0 < weight) × (weight < latches))
    → All (λ state. length state ≡ latches) states → All (λ state. ones state ≡ weight) states
    → ((a b : ℕ) → a < b → b < length states → get_or states a [] ≡ get_or states b [] → ⊥) → fits_latches latches (map word_of_bits states) ≡ true
states-pass zero weight states e none some sized weighed distinct = ap (λ states. is_empty (map word_of_bits states)) (none refl)
states-pass (suc latches) weight states e none some sized weighed distinct =
    let words : List (List ℕ) = map word_of_bits states in
    let range = some (omega arith) in
    ap (λ b. if b then is_empty words
    else (((nat_lt 0 (weight_of words) && nat_lt (weight_of words) (suc latches)) && are_alike (suc latches) (weight_of words) words) && is_none (first_repeat words)))
    (ne_eqb (suc latches) 0 (λ e. omega arith))
    ∙ ap (λ w. ((nat_lt 0 w && nat_lt w (suc latches)) && are_alike (suc latches) w words) && is_none (first_repeat words)) e
    ∙ and_from ((nat_lt 0 weight && nat_lt weight (suc latches)) && are_alike (suc latches) weight words) (is_none (first_repeat words))
    (and_from (nat_lt 0 weight && nat_lt weight (suc latches)) (are_alike (suc latches) weight words)
    (and_from (nat_lt 0 weight) (nat_lt weight (suc latches)) (lt-ltb 0 weight range.0) (lt-ltb weight (suc latches) range.1))
    (alike-pass (suc latches) weight states sized weighed))
    (ap is_none (words-different states distinct))
