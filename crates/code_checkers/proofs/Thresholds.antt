-- Thresholds count, and a threshold pair differs exactly where its two lists have m ones together.
use Rattle.std.specs.Prelude.{◌≡◌, ◌↔◌, ℕ, zero, suc, ◌+◌, ◌-◌, ◌<◌, ◌≤◌, Bool, true, false, not, ◌&&◌, ◌||◌, List, [], ◌∷◌, map, length, slice_index_or, leb, eqb, refl}
use Rattle.std.specs.List.{list_any}
use Rattle.std.proofs.Common.{sym, ◌∙◌, ap, arith, ⊎_elim, inl, inr}
use Rattle.std.proofs.lemmas.List.{get_or-map, length-map}
use Rattle.std.proofs.lemmas.List.Sums.{count_by-le-length}
use Rattle.std.proofs.lemmas.Bool.{cases_lt, cases_eq, le-leb, lt-leb, ne_eqb, eq-eqb, eqb-true}
use Rattle.std.proofs.lemmas.Bool.Decides.{nat_tests}
use Rattle.tsc_bits.specs.Bits.{weight_of}
use Rattle.tsc_bits.specs.Counting.{differ, ones}
use Rattle.code_checkers.specs.Signal.{Signal, value, pair_differs, chain_from, chain}
use Rattle.code_checkers.specs.Signal.Signal.{Word, And, Or}
use Rattle.code_checkers.specs.Threshold.{row_from, thresholds_from, thresholds, threshold, both_reach, terms_from, every_second, is_odd, terms, threshold_pair}
use Rattle.tsc_bits.specs.Thermometer.{thermo, row_with}
use Rattle.tsc_bits.proofs.Counting.{ones-cons}
use Rattle.tsc_bits.proofs.Thermometers.{thermo_length, thermo-at, row_with-more}
use Rattle.tsc_bits.proofs.Bools.{differ-comm, and-true, and-false, and_comm, or-false, or_assoc}

row_from-bits : (w : List Bool) (carried x : Signal) (row : List Signal) → map (value w) (row_from carried x row) ≡ row_with (value w carried) (value w x) (map (value w) row)
row_from-bits w carried x [] = refl
row_from-bits w carried x (t ∷ row) = ap (λ bits. (value w t || value w carried) ∷ bits) (row_from-bits w (And t x) x row)

thresholds_from-count : (w : List Bool) (row signals : List Signal) (size n size' n' : ℕ) → n ≤ size → map (value w) row ≡ thermo size n
    → size' ≡ size + length signals → n' ≡ n + ones (map (value w) signals)
    → map (value w) (thresholds_from row signals) ≡ thermo size' n'
thresholds_from-count w row [] size n size' n' within start at_size at_n =
    let e : size ≡ size' = omega arith in
    let f : n ≡ n' = omega arith in
    start ∙ ap (λ s. thermo s n) e ∙ ap (thermo size') f
thresholds_from-count w row (x ∷ signals) size n size' n' within start at_size at_n =
    thresholds_from-count w (row_from x x row) signals (size + 1) (n + weight_of (value w x)) size' n'
    (within_more (value w x) size n within)
    (row_from-bits w x x row ∙ ap (row_with (value w x) (value w x)) start ∙ row_with-more (value w x) size n within)
    (omega arith)
    (omega (arith, ones-cons (value w x) (map (value w) signals)))
  where
    within_more : (b : Bool) (size n : ℕ) → n ≤ size → n + weight_of b ≤ size + 1
    within_more true size n h = omega arith
    within_more false size n h = omega arith

-- the thresholds of a list are 1 up to its number of ones
thresholds-count : (w : List Bool) (signals : List Signal) → map (value w) (thresholds signals) ≡ thermo (length signals) (ones (map (value w) signals))
thresholds-count w signals = thresholds_from-count w [] signals 0 0 _ _ (omega arith) refl (omega arith) (omega arith)

pub length-thresholds : (w : List Bool) (signals : List Signal) → length (thresholds signals) ≡ length signals
length-thresholds w signals =
    sym (length-map (thresholds signals) (value w)) ∙ ap length (thresholds-count w signals) ∙ thermo_length (length signals) (ones (map (value w) signals))

-- the threshold of j is 1 exactly where at least j of the list are
pub threshold-value : (w : List Bool) (signals : List Signal) (j : ℕ) → j < length signals → value w (threshold (thresholds signals) (suc j)) ≡ leb (suc j) (ones (map (value w) signals))
threshold-value w signals j h =
    let within : j < length (thresholds signals) = omega (arith, length-thresholds w signals) in
    let place : suc j - 1 ≡ j = omega arith in
    ap (λ k. value w (slice_index_or (thresholds signals) k (Word 0))) place
    ∙ sym (get_or-map (value w) (thresholds signals) j (Word 0) false within)
    ∙ ap (λ bits. slice_index_or bits j false) (thresholds-count w signals)
    ∙ thermo-at (length signals) (ones (map (value w) signals)) j false h

-- at least i of n, where 0 asks for nothing
reach-value : (w : List Bool) (firsts seconds : List Signal) (i j : ℕ) → 0 < i + j → i ≤ length firsts → j ≤ length seconds
    → value w (both_reach (thresholds firsts) (thresholds seconds) i j) ≡ leb i (ones (map (value w) firsts)) && leb j (ones (map (value w) seconds))
reach-value w firsts seconds zero zero some at_i at_j = absurd (omega arith)
reach-value w firsts seconds zero (suc j) some at_i at_j =
    threshold-value w seconds j (omega arith) ∙ ap (λ b. b && leb (suc j) (ones (map (value w) seconds))) (sym (le-leb 0 (ones (map (value w) firsts)) (omega arith)))
reach-value w firsts seconds (suc i) zero some at_i at_j =
    threshold-value w firsts i (omega arith)
    ∙ sym (ap (λ b. leb (suc i) (ones (map (value w) firsts)) && b) (le-leb 0 (ones (map (value w) seconds)) (omega arith)) ∙ and-true _)
reach-value w firsts seconds (suc i) (suc j) some at_i at_j =
    ap (λ b. b && value w (threshold (thresholds seconds) (suc j))) (threshold-value w firsts i (omega arith))
    ∙ ap (λ b. leb (suc i) (ones (map (value w) firsts)) && b) (threshold-value w seconds j (omega arith))

-- the places t from one on, so many, each with whether p ≤ t < e
window : ℕ → ℕ → ℕ → ℕ → List Bool
window p e t zero = []
window p e t (suc count) = (leb p t && leb (suc t) e) ∷ window p e (t + 1) count

-- with a ones of la and b of lb, term t is 1 from t = lb - b to a + lb - m
in_window : (a b lb m t : ℕ) → leb (m + t - lb) a && leb (lb - t) b ≡ leb (lb - b) t && leb (suc t) (a + lb + 1 - m)
in_window a b lb m t =
    ap (λ x. x && leb (lb - t) b) (first a lb m t) ∙ and_comm (leb (suc t) (a + lb + 1 - m)) (leb (lb - t) b) ∙ ap (λ x. x && leb (suc t) (a + lb + 1 - m)) (second b lb t)
  where
    first : (a lb m t : ℕ) → leb (m + t - lb) a ≡ leb (suc t) (a + lb + 1 - m)
    first a lb m t = grind (arith, nat_tests)

    second : (b lb t : ℕ) → leb (lb - t) b ≡ leb (lb - b) t
    second b lb t = grind (arith, nat_tests)

terms-window : (w : List Bool) (firsts seconds : List Signal) (m t count : ℕ) → 0 < m → m < length firsts + length seconds → t + count + m ≤ length firsts + length seconds + 1
    → map (value w) (terms_from (thresholds firsts) (thresholds seconds) m t count)
    ≡ window (length seconds - ones (map (value w) seconds)) (ones (map (value w) firsts) + length seconds + 1 - m) t count
unfolding window
terms-window w firsts seconds m t zero some room within = refl
terms-window w firsts seconds m t (suc count) some room within =
    ap (λ n. value w (both_reach (thresholds firsts) (thresholds seconds) (m + t - n) (n - t)) ∷ map (value w) (terms_from (thresholds firsts) (thresholds seconds) m (t + 1) count)) (length-thresholds w seconds)
    ∙ ap (λ b. b ∷ map (value w) (terms_from (thresholds firsts) (thresholds seconds) m (t + 1) count))
    (reach-value w firsts seconds (m + t - length seconds) (length seconds - t) (omega arith) (omega arith) (omega arith)
    ∙ in_window (ones (map (value w) firsts)) (ones (map (value w) seconds)) (length seconds) m t)
    ∙ ap (λ bits. (leb (length seconds - ones (map (value w) seconds)) t && leb (suc t) (ones (map (value w) firsts) + length seconds + 1 - m)) ∷ bits)
    (terms-window w firsts seconds m (t + 1) count some room (omega arith))

-- some bit of every second place is 1
any_second : Bool → List Bool → Bool
any_second chosen [] = false
any_second true (b ∷ bits) = b || any_second false bits
any_second false (b ∷ bits) = any_second true bits

chain_from-any : (w : List Bool) (made : Signal) (signals : List Signal) → value w (chain_from Or made signals) ≡ value w made || list_any (value w) signals
chain_from-any w made [] = sym (or-false (value w made))
chain_from-any w made (x ∷ signals) = chain_from-any w (Or made x) signals ∙ or_assoc (value w made) (value w x) (list_any (value w) signals)

chain-any : (w : List Bool) (signals : List Signal) → 0 < length signals → value w (chain Or signals) ≡ list_any (value w) signals
chain-any w [] some = absurd (omega arith)
chain-any w (x ∷ signals) some = chain_from-any w x signals

every_second-any : (w : List Bool) (chosen : Bool) (signals : List Signal) → list_any (value w) (every_second chosen signals) ≡ any_second chosen (map (value w) signals)
unfolding any_second
every_second-any w true [] = refl
every_second-any w false [] = refl
every_second-any w true (x ∷ signals) = ap (λ b. value w x || b) (every_second-any w false signals)
every_second-any w false (x ∷ signals) = every_second-any w true signals

every_second-some : (chosen : Bool) (signals : List Signal) → 1 < length signals → 0 < length (every_second chosen signals)
every_second-some true [] h = absurd (omega arith)
every_second-some false [] h = absurd (omega arith)
every_second-some true (x ∷ signals) h = omega arith
every_second-some false (x ∷ []) h = absurd (omega arith)
every_second-some false (x ∷ (y ∷ signals)) h = omega arith

-- exactly one of the two halves has a 1
one_half : List Bool → Bool
one_half bits = differ (any_second true bits) (any_second false bits)

one_half-either : (chosen : Bool) (bits : List Bool) → differ (any_second chosen bits) (any_second (not chosen) bits) ≡ one_half bits
unfolding one_half
one_half-either true bits = refl
one_half-either false bits = differ-comm (any_second false bits) (any_second true bits)

-- past its end a window has no 1
window-after : (chosen : Bool) (p e t count : ℕ) → e ≤ t → any_second chosen (window p e t count) ≡ false
unfolding any_second window
window-after true p e t zero h = refl
window-after false p e t zero h = refl
window-after true p e t (suc count) h =
    ap (λ b. (leb p t && b) || any_second false (window p e (t + 1) count)) (lt-leb (suc t) e (omega arith))
    ∙ ap (λ b. b || any_second false (window p e (t + 1) count)) (and-false (leb p t))
    ∙ window-after false p e (t + 1) count (omega arith)
window-after false p e t (suc count) h = window-after true p e (t + 1) count (omega arith)

one_half-zero : (bits : List Bool) → one_half (false ∷ bits) ≡ one_half bits
unfolding one_half any_second
one_half-zero bits = differ-comm (any_second false bits) (any_second true bits)

one_half-one : (bits : List Bool) → one_half (true ∷ bits) ≡ not (any_second true bits)
unfolding one_half any_second
one_half-one bits = refl

-- a window that has ended has no half with a 1
one_half-after : (p e t count : ℕ) → e ≤ t → one_half (window p e t count) ≡ false
unfolding one_half
one_half-after p e t count h =
    ap (λ b. differ b (any_second false (window p e t count))) (window-after true p e t count h)
    ∙ ap (differ false) (window-after false p e t count h)

-- a window that goes on begins with a 1
window-inside : (p e t count : ℕ) → p ≤ t → t < e → 0 < count → any_second true (window p e t count) ≡ true
unfolding any_second window
window-inside p e t zero low high some = absurd (omega arith)
window-inside p e t (suc count) low high some =
    ap (λ b. (b && leb (suc t) e) || any_second false (window p e (t + 1) count)) (le-leb p t low)
    ∙ ap (λ b. b || any_second false (window p e (t + 1) count)) (le-leb (suc t) e high)

-- the first place of a window, by whether it is before it, at its end, its only one or one of more
first_place : Bool → Bool → ℕ → ℕ → ℕ → ℕ → Bool
first_place low high p e t count = one_half ((low && high) ∷ window p e (t + 1) count)

first_place-before : (high : Bool) (p e t count : ℕ) → first_place false high p e t count ≡ one_half (window p e (t + 1) count)
unfolding first_place
first_place-before high p e t count = one_half-zero (window p e (t + 1) count)

first_place-after : (low : Bool) (p e t count : ℕ) → e ≤ t → first_place low false p e t count ≡ false
unfolding first_place
first_place-after low p e t count h =
    ap (λ b. one_half (b ∷ window p e (t + 1) count)) (and-false low)
    ∙ one_half-zero (window p e (t + 1) count)
    ∙ one_half-after p e (t + 1) count (omega arith)

first_place-only : (p e t count : ℕ) → e ≡ t + 1 → first_place true true p e t count ≡ true
unfolding first_place
first_place-only p e t count h = one_half-one (window p e (t + 1) count) ∙ ap not (window-after true p e (t + 1) count (omega arith))

first_place-more : (p e t count : ℕ) → p ≤ t → t + 1 < e → 0 < count → first_place true true p e t count ≡ false
unfolding first_place
first_place-more p e t count low high some =
    one_half-one (window p e (t + 1) count) ∙ ap not (window-inside p e (t + 1) count (omega arith) high some)

first_place-here : (p e t count : ℕ) → t ≡ p → e ≤ t + suc count → first_place (leb p t) (leb (suc t) e) p e t count ≡ eqb (p + 1) e
first_place-here p e t count at high = ⊎_elim inside after (cases_lt t e)
  where
    inside : t < e → first_place (leb p t) (leb (suc t) e) p e t count ≡ eqb (p + 1) e
    inside h =
        ap (λ b. first_place b (leb (suc t) e) p e t count) (le-leb p t (omega arith))
        ∙ ap (λ b. first_place true b p e t count) (le-leb (suc t) e (omega arith))
        ∙ ⊎_elim only more (cases_eq e (t + 1))
      where
        only : e ≡ t + 1 → first_place true true p e t count ≡ eqb (p + 1) e
        only q = first_place-only p e t count q ∙ sym (eq-eqb (p + 1) e (omega arith))

        more : (e ≡ t + 1 → ⊥) → first_place true true p e t count ≡ eqb (p + 1) e
        more q =
            let further : t + 1 < e = omega arith in
            first_place-more p e t count (omega arith) further (omega arith) ∙ sym (ne_eqb (p + 1) e (λ r. omega arith))

    after : e ≤ t → first_place (leb p t) (leb (suc t) e) p e t count ≡ eqb (p + 1) e
    after h =
        ap (λ b. first_place (leb p t) b p e t count) (lt-leb (suc t) e (omega arith))
        ∙ first_place-after (leb p t) p e t count h
        ∙ sym (ne_eqb (p + 1) e (λ r. omega arith))

-- the halves of a window differ exactly where it is one place wide
window-one_half : (p e t count : ℕ) → t ≤ p → e ≤ t + count → one_half (window p e t count) ≡ eqb (p + 1) e
unfolding window first_place
window-one_half p e t zero low high = one_half-after p e t zero (omega arith) ∙ sym (ne_eqb (p + 1) e (λ h. omega arith))
window-one_half p e t (suc count) low high =
    elim (cases_lt t p) [
      | inl lt ↦
          ap (λ b. first_place b (leb (suc t) e) p e t count) (lt-leb p t lt)
          ∙ first_place-before (leb (suc t) e) p e t count
          ∙ window-one_half p e (t + 1) count (omega arith) (omega arith)
      | inr le ↦ first_place-here p e t count (omega arith) high
    ]

pub length-terms_from : (firsts seconds : List Signal) (m t count : ℕ) → length (terms_from firsts seconds m t count) ≡ count
length-terms_from firsts seconds m t zero = refl
length-terms_from firsts seconds m t (suc count) = ap suc (length-terms_from firsts seconds m (t + 1) count)

half-value : (w : List Bool) (chosen : Bool) (A B : List Signal) (m : ℕ) → m < length A + length B → value w (chain Or (every_second chosen (terms A B m))) ≡ any_second chosen (map (value w) (terms A B m))
half-value w chosen A B m room =
    let some : 1 < length (terms A B m) = omega (arith, length-terms_from (thresholds A) (thresholds B) m 0 (length A + length B + 1 - m)) in
    chain-any w (every_second chosen (terms A B m)) (every_second-some chosen (terms A B m) some)
    ∙ every_second-any w chosen (terms A B m)

-- a threshold pair differs exactly where its two lists have m ones together
threshold_pair-eqb : (w : List Bool) (A B : List Signal) (m : ℕ) → 0 < m → m < length A + length B
    → pair_differs w (threshold_pair A B m)
    ≡ eqb (length B - ones (map (value w) B) + 1) (ones (map (value w) A) + length B + 1 - m)
threshold_pair-eqb w A B m some room =
    ap (λ b. differ b (value w (threshold_pair A B m).second)) (half-value w (is_odd (m + length B)) A B m room)
    ∙ ap (differ (any_second (is_odd (m + length B)) (map (value w) (terms A B m)))) (half-value w (not (is_odd (m + length B))) A B m room)
    ∙ one_half-either (is_odd (m + length B)) (map (value w) (terms A B m))
    ∙ ap one_half (terms-window w A B m 0 (length A + length B + 1 - m) some room (omega arith))
    ∙ window-one_half (length B - ones (map (value w) B)) (ones (map (value w) A) + length B + 1 - m) 0 (length A + length B + 1 - m)
    (omega arith)
    (omega (arith, count_by-le-length (λ (b : Bool). b) (map (value w) A), length-map A (value w)))

pub threshold_pair-differs : (w : List Bool) (A B : List Signal) (m : ℕ) → 0 < m → m < length A + length B
    → (pair_differs w (threshold_pair A B m) ≡ true) ↔ (ones (map (value w) A) + ones (map (value w) B) ≡ m)
threshold_pair-differs w A B m some room =
    let e = threshold_pair-eqb w A B m some room in
    let at_b : ones (map (value w) B) ≤ length B = omega (arith, count_by-le-length (λ (b : Bool). b) (map (value w) B), length-map B (value w)) in (
      (λ h. together (ones (map (value w) A)) (ones (map (value w) B)) (length B) m at_b (eqb-true _ _ (sym e ∙ h))),
      (λ h. e ∙ eq-eqb _ _ (apart (ones (map (value w) A)) (ones (map (value w) B)) (length B) m at_b h)),
    )
  where
    together : (a b lb m : ℕ) → b ≤ lb → lb - b + 1 ≡ a + lb + 1 - m → a + b ≡ m
    together a b lb m h e = omega arith

    apart : (a b lb m : ℕ) → b ≤ lb → a + b ≡ m → lb - b + 1 ≡ a + lb + 1 - m
    apart a b lb m h e = omega arith
