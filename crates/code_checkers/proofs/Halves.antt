-- The terms of a threshold pair and their two halves, in a draft.
use Rattle.std.specs.Prelude.{◌≡◌, ℕ, zero, suc, ◌+◌, ◌-◌, ◌%◌, ◌<◌, Bool, true, false, not, List, [], ◌∷◌, map, length, drop, refl}
use Rattle.std.specs.List.{AllByRecursion}
use Rattle.std.proofs.Common.{sym, ◌∙◌, ap, arith, ⊎_elim}
use Rattle.std.proofs.lemmas.List.{length-map, length-drop, drop-map}
use Rattle.std.proofs.lemmas.List.Elements.{recursion_from_All, All-from_recursion}
use Rattle.std.proofs.lemmas.Bool.{cases_eq, eq-eqb, ne_eqb}
use Rattle.code_checkers.specs.declared.gate.CheckGate.{CheckGate}
use Rattle.code_checkers.specs.declared.pair_places.PairPlaces.{PairPlaces}
use Rattle.code_checkers.specs.Signal.{Signal, chain}
use Rattle.code_checkers.specs.Signal.Signal.{Or}
use Rattle.code_checkers.specs.Threshold.{thresholds, terms_from, terms, every_second, is_odd, threshold_pair}
use Rattle.code_checkers.specs.Gates.{meaning}
use Rattle.code_checkers.specs.Draft.{AreWithin, meanings, IsAdded, AreAdded, PairIsAdded}
use Rattle.code_checkers.proofs.Thresholds.{length-thresholds, length-terms_from}
use Rattle.code_checkers.proofs.Kept.{Keeps-trans, meanings_kept, pair_from}
use Rattle.code_checkers.proofs.Loops.{every_second-tail}

map-every_second : {X Y : Type 0} (f : X → Y) (chosen : Bool) (xs : List X) → every_second chosen (map f xs) ≡ map f (every_second chosen xs)
map-every_second f true [] = refl
map-every_second f false [] = refl
map-every_second f true (x ∷ xs) = ap (λ ys. f x ∷ ys) (map-every_second f false xs)
map-every_second f false (x ∷ xs) = map-every_second f true xs

pub half_all : {X : Type 0} (P : X → Type 0) (chosen : Bool) (xs : List X) → AllByRecursion P xs → AllByRecursion P (every_second chosen xs)
half_all P true [] all = tt
half_all P false [] all = tt
half_all P true (x ∷ xs) all = (all.0, half_all P false xs all.1)
half_all P false (x ∷ xs) all = half_all P true xs all.1

drop_all_by : {X : Type 0} (P : X → Type 0) (n : ℕ) (xs : List X) → AllByRecursion P xs → AllByRecursion P (drop n xs)
drop_all_by P zero xs all = all
drop_all_by P (suc n) [] all = tt
drop_all_by P (suc n) (x ∷ xs) all = drop_all_by P n xs all.1

-- every second place is within the draft
pub half_within : (gates : List CheckGate) (start : ℕ) (places : List ℕ) → AreWithin gates places → AreWithin gates (every_second true (drop start places))
half_within gates start places within =
    let P : ℕ → Type 0 = λ place. place < length gates in
    All-from_recursion P (every_second true (drop start places)) (half_all P true (drop start places) (drop_all_by P start places (recursion_from_All P places within)))

half_some_of : {X : Type 0} (xs : List X) → 0 < length xs → 0 < length (every_second true xs)
half_some_of [] h = h
half_some_of (x ∷ xs) h = omega arith

pub half_some : (start : ℕ) (places : List ℕ) → start < length places → 0 < length (every_second true (drop start places))
half_some start places h = half_some_of (drop start places) (omega (arith, length-drop start places))

-- what every second place means
pub half_meanings : (gates : List CheckGate) (start : ℕ) (places : List ℕ) → meanings gates (every_second true (drop start places)) ≡ every_second true (drop start (meanings gates places))
half_meanings gates start places =
    sym (map-every_second (meaning gates) true (drop start places)) ∙ ap (every_second true) (sym (drop-map (meaning gates) start places))

-- which half has the terms of odd i
odd_half : (n : ℕ) (signals : List Signal) → every_second true (drop ((n + 1) % 2) signals) ≡ every_second (is_odd n) signals
odd_half n signals = ⊎_elim odd even (cases_eq (n % 2) 1)
  where
    odd : n % 2 ≡ 1 → every_second true (drop ((n + 1) % 2) signals) ≡ every_second (is_odd n) signals
    odd e =
        let start : (n + 1) % 2 ≡ 0 = omega arith in
        ap (λ k. every_second true (drop k signals)) start ∙ sym (ap (λ b. every_second b signals) (eq-eqb (n % 2) 1 e))

    even : (n % 2 ≡ 1 → ⊥) → every_second true (drop ((n + 1) % 2) signals) ≡ every_second (is_odd n) signals
    even e =
        let start : (n + 1) % 2 ≡ 1 = omega arith in
        ap (λ k. every_second true (drop k signals)) start ∙ sym (every_second-tail signals) ∙ sym (ap (λ b. every_second b signals) (ne_eqb (n % 2) 1 e))

even_half : (n : ℕ) (signals : List Signal) → every_second true (drop (1 - (n + 1) % 2) signals) ≡ every_second (not (is_odd n)) signals
even_half n signals = ⊎_elim odd even (cases_eq (n % 2) 1)
  where
    odd : n % 2 ≡ 1 → every_second true (drop (1 - (n + 1) % 2) signals) ≡ every_second (not (is_odd n)) signals
    odd e =
        let start : 1 - (n + 1) % 2 ≡ 1 = omega arith in
        ap (λ k. every_second true (drop k signals)) start ∙ sym (every_second-tail signals) ∙ sym (ap (λ b. every_second (not b) signals) (eq-eqb (n % 2) 1 e))

    even : (n % 2 ≡ 1 → ⊥) → every_second true (drop (1 - (n + 1) % 2) signals) ≡ every_second (not (is_odd n)) signals
    even e =
        let start : 1 - (n + 1) % 2 ≡ 0 = omega arith in
        ap (λ k. every_second true (drop k signals)) start ∙ sym (ap (λ b. every_second (not b) signals) (ne_eqb (n % 2) 1 e))

-- thresholds were added for a list: there are as many
pub length-added : (a b : List CheckGate) (list row : List ℕ) → AreAdded a b (thresholds (meanings a list)) row → length row ≡ length list
length-added a b list row h =
    sym (length-map row (meaning b)) ∙ ap length h.mean ∙ length-thresholds [] (meanings a list) ∙ length-map list (meaning a)

-- thresholds of two lists and then their terms: the terms of the lists
pub terms_added : (a b c d : List CheckGate) (first_list second_list firsts seconds places : List ℕ) (m : ℕ)
    → AreWithin a second_list
    → AreAdded a b (thresholds (meanings a first_list)) firsts
    → AreAdded b c (thresholds (meanings b second_list)) seconds
    → AreAdded c d (terms_from (meanings c firsts) (meanings c seconds) m 0 (length firsts + length seconds + 1 - m)) places
    → AreAdded a d (terms (meanings a first_list) (meanings a second_list) m) places
terms_added a b c d first_list second_list firsts seconds places m within first second added =
    let at_first : meanings c firsts ≡ thresholds (meanings a first_list) = meanings_kept second.keeps firsts first.within ∙ first.mean in
    let at_second : meanings c seconds ≡ thresholds (meanings a second_list) = second.mean ∙ ap thresholds (meanings_kept first.keeps second_list within) in
    let count : length firsts + length seconds + 1 - m ≡ length (meanings a first_list) + length (meanings a second_list) + 1 - m =
    omega (arith, length-added a b first_list firsts first, length-added b c second_list seconds second, length-map first_list (meaning a), length-map second_list (meaning a)) in
    record {
      mean =
          added.mean
          ∙ ap (λ n. terms_from (meanings c firsts) (meanings c seconds) m 0 n) count
          ∙ ap (λ (ss : List Signal). terms_from ss (meanings c seconds) m 0 (length (meanings a first_list) + length (meanings a second_list) + 1 - m)) at_first
          ∙ ap (λ (ss : List Signal). terms_from (thresholds (meanings a first_list)) ss m 0 (length (meanings a first_list) + length (meanings a second_list) + 1 - m)) at_second;
      within = added.within;
      keeps = Keeps-trans first.keeps (Keeps-trans second.keeps added.keeps);
    }

-- terms and then their halves: the threshold pair
pub halves_added : (a b c d : List CheckGate) (first_list second_list places : List ℕ) (m n start : ℕ) (p : PairPlaces)
    → n ≡ length second_list → start ≡ (m + n + 1) % 2
    → AreAdded a b (terms (meanings a first_list) (meanings a second_list) m) places
    → IsAdded b c (chain Or (every_second true (drop start (meanings b places)))) p.first
    → IsAdded c d (chain Or (every_second true (drop (1 - start) (meanings c places)))) p.second
    → PairIsAdded a d (threshold_pair (meanings a first_list) (meanings a second_list) m) p
halves_added a b c d first_list second_list places m n start p sized at added first second =
    let A : List Signal = meanings a first_list in
    let B : List Signal = meanings a second_list in
    let size : m + n ≡ m + length B = omega (arith, length-map second_list (meaning a)) in
    let place : start ≡ (m + length B + 1) % 2 = at ∙ ap (λ k. (k + 1) % 2) size in
    let later : meanings c places ≡ terms A B m = meanings_kept first.keeps places added.within ∙ added.mean in
    let odd : chain Or (every_second true (drop start (meanings b places))) ≡ (threshold_pair A B m).first =
    ap (λ (ss : List Signal). chain Or (every_second true (drop start ss))) added.mean
    ∙ ap (λ k. chain Or (every_second true (drop k (terms A B m)))) place
    ∙ ap (chain Or) (odd_half (m + length B) (terms A B m)) in
    let even : chain Or (every_second true (drop (1 - start) (meanings c places))) ≡ (threshold_pair A B m).second =
    ap (λ (ss : List Signal). chain Or (every_second true (drop (1 - start) ss))) later
    ∙ ap (λ k. chain Or (every_second true (drop (1 - k) (terms A B m)))) place
    ∙ ap (chain Or) (even_half (m + length B) (terms A B m)) in
    pair_from a b c d (threshold_pair A B m).first (threshold_pair A B m).second p added.keeps
    (record { means = first.means ∙ odd; within = first.within; keeps = first.keeps })
    (record { means = second.means ∙ even; within = second.within; keeps = second.keeps })

-- there is a term more than the lists have items above m
pub length-terms_added : (a b : List CheckGate) (first_list second_list places : List ℕ) (m : ℕ) → AreAdded a b (terms (meanings a first_list) (meanings a second_list) m) places
    → length places ≡ length first_list + length second_list + 1 - m
length-terms_added a b first_list second_list places m added =
    let A : List Signal = meanings a first_list in
    let B : List Signal = meanings a second_list in
    omega (
      arith,
      length-map places (meaning b),
      ap length added.mean,
      length-terms_from (thresholds A) (thresholds B) m 0 (length A + length B + 1 - m),
      length-map first_list (meaning a),
      length-map second_list (meaning a),
    )
