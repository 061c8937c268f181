-- The counter gives the number of zeros in binary, and the pairs of a Berger check differ exactly where it is that number.
use Rattle.std.specs.Prelude.{◌≡◌, ◌↔◌, ◌⊎◌, ℕ, zero, suc, ◌+◌, ◌*◌, ◌^◌, ◌<◌, ◌≤◌, ◌==◌, Bool, true, false, not, ◌&&◌, List, [], ◌∷◌, map, length, refl}
use Rattle.std.specs.List.{list_all}
use Rattle.std.proofs.Common.{sym, ◌∙◌, ap, subst, arith, ⊎_elim, inl, inr}
use Rattle.std.proofs.Math.Nat.{pow-succ', pow-le-pow_right}
use Rattle.std.proofs.lemmas.List.{length-map}
use Rattle.std.proofs.lemmas.Bool.{cases_eq, cases_lt, ne_eqb, eq-eqb, false≢true}
use Rattle.tsc_bits.specs.Bits.{weight_of}
use Rattle.fault_secure.specs.Circuit.{bit}
use Rattle.fault_secure.specs.CodePlan.{IsBergerWidth}
use Rattle.tsc_bits.specs.Counting.{differ, zeros, counted, add_carry as add_carry_bits}
use Rattle.tsc_bits.proofs.Counting.{zeros-cons, add_carry-longer, add_carry-kept, weight-le-one}
use Rattle.code_checkers.specs.Signal.{Signal, value, pair_differs, words_from}
use Rattle.code_checkers.specs.Signal.Signal.{Not, And}
use Rattle.code_checkers.specs.Counter.{add_carry, count_from, count_zeros}
use Rattle.code_checkers.specs.Checker.{count_pairs}

add_carry-bits : (w : List Bool) (grows : Bool) (carry : Signal) (bits : List Signal) → map (value w) (add_carry grows carry bits) ≡ add_carry_bits grows (value w carry) (map (value w) bits)
add_carry-bits w true carry [] = refl
add_carry-bits w false carry [] = refl
add_carry-bits w true carry (b ∷ bits) = ap (λ rest. differ (value w b) (value w carry) ∷ rest) (add_carry-bits w true (And b carry) bits)
add_carry-bits w false carry (b ∷ bits) = ap (λ rest. differ (value w b) (value w carry) ∷ rest) (add_carry-bits w false (And b carry) bits)

length-add_carry-grown : (carry : Signal) (bits : List Signal) → length (add_carry true carry bits) ≡ suc (length bits)
length-add_carry-grown carry [] = refl
length-add_carry-grown carry (b ∷ bits) = ap suc (length-add_carry-grown (And b carry) bits)

length-add_carry-kept : (carry : Signal) (bits : List Signal) → length (add_carry false carry bits) ≡ length bits
length-add_carry-kept carry [] = refl
length-add_carry-kept carry (b ∷ bits) = ap suc (length-add_carry-kept (And b carry) bits)

-- before the signal number i the counter has n, which is below i, in as few bits as hold i - 1
record IsCounting (w : List Bool) (i n : ℕ) (bits : List Signal) : Type 0 where
  counts : counted (map (value w) bits) ≡ n
  below : n < i
  room : i ≤ 2 ^ length bits
  tight : 2 ^ length bits < 2 * i

counting-more : (w : List Bool) (i n : ℕ) (bits : List Signal) (x : Signal) → IsCounting w i n bits
    → IsCounting w (i + 1) (weight_of (not (value w x)) + n) (add_carry (i == 2 ^ length bits) (Not x) bits)
counting-more w i n bits x h = ⊎_elim grown kept (cases_eq i (2 ^ length bits))
  where
    grown : i ≡ 2 ^ length bits → IsCounting w (i + 1) (weight_of (not (value w x)) + n) (add_carry (i == 2 ^ length bits) (Not x) bits)
    grown e =
        subst (λ (grows : Bool). IsCounting w (i + 1) (weight_of (not (value w x)) + n) (add_carry grows (Not x) bits)) (sym (eq-eqb i (2 ^ length bits) e)) (record {
          counts = ap counted (add_carry-bits w true (Not x) bits) ∙ add_carry-longer (not (value w x)) (map (value w) bits) ∙ omega (arith, h.counts);
          below = omega (arith, h.below, weight-le-one (not (value w x)));
          room = omega (arith, ap (λ s. 2 ^ s) (length-add_carry-grown (Not x) bits), pow-succ' 2 (length bits), e, h.below);
          tight = omega (arith, ap (λ s. 2 ^ s) (length-add_carry-grown (Not x) bits), pow-succ' 2 (length bits), e);
        })

    kept : (i ≡ 2 ^ length bits → ⊥) → IsCounting w (i + 1) (weight_of (not (value w x)) + n) (add_carry (i == 2 ^ length bits) (Not x) bits)
    kept e =
        let space : counted (map (value w) bits) + weight_of (not (value w x)) < 2 ^ length (map (value w) bits) =
        omega (arith, h.counts, h.below, h.room, weight-le-one (not (value w x)), ap (λ s. 2 ^ s) (length-map bits (value w))) in
        subst (λ (grows : Bool). IsCounting w (i + 1) (weight_of (not (value w x)) + n) (add_carry grows (Not x) bits)) (sym (ne_eqb i (2 ^ length bits) e)) (record {
          counts = ap counted (add_carry-bits w false (Not x) bits) ∙ add_carry-kept (not (value w x)) (map (value w) bits) space ∙ omega (arith, h.counts);
          below = omega (arith, h.below, weight-le-one (not (value w x)));
          room = omega (arith, ap (λ s. 2 ^ s) (length-add_carry-kept (Not x) bits), h.room, e);
          tight = omega (arith, ap (λ s. 2 ^ s) (length-add_carry-kept (Not x) bits), h.tight);
        })

counting-all : (w : List Bool) (i n : ℕ) (bits signals : List Signal) → IsCounting w i n bits
    → IsCounting w (i + length signals) (zeros (map (value w) signals) + n) (count_from i bits signals)
counting-all w i n bits [] h =
    let e : i ≡ i + 0 = omega arith in
    let f : n ≡ 0 + n = omega arith in
    subst (λ (k : ℕ). IsCounting w k (0 + n) bits) e (subst (λ (k : ℕ). IsCounting w i k bits) f h)
counting-all w i n bits (x ∷ signals) h =
    let e : i + 1 + length signals ≡ i + suc (length signals) = omega arith in
    let f : zeros (map (value w) signals) + (weight_of (not (value w x)) + n) ≡ zeros (map (value w) (x ∷ signals)) + n = omega (arith, zeros-cons (value w x) (map (value w) signals)) in
    let rest = counting-all w (i + 1) (weight_of (not (value w x)) + n) (add_carry (i == 2 ^ length bits) (Not x) bits) signals (counting-more w i n bits x h) in
    subst (λ (k : ℕ). IsCounting w k (zeros (map (value w) (x ∷ signals)) + n) (count_from i bits (x ∷ signals))) e
    (subst (λ (k : ℕ). IsCounting w (i + 1 + length signals) k (count_from i bits (x ∷ signals))) f rest)

counting : (w : List Bool) (signals : List Signal) → IsCounting w (1 + length signals) (zeros (map (value w) signals) + 0) (count_zeros signals)
counting w signals = counting-all w 1 0 [] signals (record { counts = refl; below = omega arith; room = omega arith; tight = omega arith })

-- the counter gives the number of zeros
pub count_zeros-counted : (w : List Bool) (signals : List Signal) → counted (map (value w) (count_zeros signals)) ≡ zeros (map (value w) signals)
count_zeros-counted w signals = (counting w signals).counts ∙ omega arith

-- in as many bits as a Berger check of so many outputs has
pub length-count_zeros : (signals : List Signal) (width : ℕ) → IsBergerWidth (length signals) width → length (count_zeros signals) ≡ width
length-count_zeros signals width h =
    let c = counting [] signals in
    let enough : width ≤ length (count_zeros signals) = h.1 (length (count_zeros signals)) (omega (arith, c.room)) in
    ⊎_elim (λ e. e) (λ lt. absurd (too_wide (length (count_zeros signals)) width (length signals) lt (omega (arith, c.tight)) h.0)) (equal_or_less width (length (count_zeros signals)) enough)
  where
    equal_or_less : (a b : ℕ) → a ≤ b → (b ≡ a) ⊎ (a < b)
    equal_or_less a b h = elim (cases_lt a b) [ inl l ↦ inr l | inr l ↦ inl (omega arith) ]

    too_wide : (len width k : ℕ) → width < len → 2 ^ len < 2 * (1 + k) → k < 2 ^ width → ⊥
    too_wide len width k lt tight fits =
        let two : zero < 2 = omega arith in
        let e : 2 ^ suc width ≤ 2 ^ len = pow-le-pow_right two lt in
        omega (arith, pow-succ' 2 width)

-- the pairs of a Berger check differ exactly where the counted bits are the checks
pub count_pairs-differ : (w : List Bool) (check : ℕ) (bits : List Signal)
    → (list_all (pair_differs w) (count_pairs check bits) ≡ true) ↔ (map (value w) bits ≡ map (value w) (words_from check (length bits)))
count_pairs-differ w check [] = (λ h. refl, λ h. refl)
count_pairs-differ w check (b ∷ bits) = (
  (λ h. to (value w b) (bit w check) (count_pairs-differ w (check + 1) bits).0 h),
  (λ h. from (value w b) (bit w check) (count_pairs-differ w (check + 1) bits).1 h),
)
  where
    to : (x y : Bool) {all : Bool} {xs ys : List Bool} → (all ≡ true → xs ≡ ys) → differ (not x) y && all ≡ true → x ∷ xs ≡ y ∷ ys
    to true true rest h = ap (λ bits. true ∷ bits) (rest h)
    to true false rest h = absurd (false≢true h)
    to false true rest h = absurd (false≢true h)
    to false false rest h = ap (λ bits. false ∷ bits) (rest h)

    from : (x y : Bool) {all : Bool} {xs ys : List Bool} → (xs ≡ ys → all ≡ true) → x ∷ xs ≡ y ∷ ys → differ (not x) y && all ≡ true
    from true true rest h = rest cc
    from true false rest h = cc
    from false true rest h = cc
    from false false rest h = rest cc

pub length-count_pairs : (check : ℕ) (bits : List Signal) → length (count_pairs check bits) ≡ length bits
length-count_pairs check [] = refl
length-count_pairs check (b ∷ bits) = ap suc (length-count_pairs (check + 1) bits)

-- a counter of numbers that fit has few bits
pub few_bits : (size number : ℕ) → 2 ^ size < 2 * number → number < 2 ^ 33 → size < 64
few_bits size number tight small = elim (cases_lt size 64) [ inl lt ↦ lt | inr many ↦ absurd (too_many many) ]
  where
    too_many : 64 ≤ size → ⊥
    too_many many =
        let two : zero < 2 = omega arith in
        let e : 2 ^ 64 ≤ 2 ^ size = pow-le-pow_right two many in
        omega arith

-- counting on keeps the counter as small as the number needs
pub tight_more : (bits : List Signal) (carry : Signal) (number size : ℕ) → size ≡ length (add_carry (number == 2 ^ length bits) carry bits) → 2 ^ length bits < 2 * number → 2 ^ size < 2 * (number + 1)
tight_more bits carry number size at tight = ⊎_elim grown kept (cases_eq number (2 ^ length bits))
  where
    grown : number ≡ 2 ^ length bits → 2 ^ size < 2 * (number + 1)
    grown e =
        let wide : size ≡ suc (length bits) = at ∙ ap (λ grows. length (add_carry grows carry bits)) (eq-eqb number (2 ^ length bits) e) ∙ length-add_carry-grown carry bits in
        omega (arith, ap (λ s. 2 ^ s) wide, pow-succ' 2 (length bits))

    kept : (number ≡ 2 ^ length bits → ⊥) → 2 ^ size < 2 * (number + 1)
    kept e =
        let wide : size ≡ length bits = at ∙ ap (λ grows. length (add_carry grows carry bits)) (ne_eqb number (2 ^ length bits) e) ∙ length-add_carry-kept carry bits in
        omega (arith, ap (λ s. 2 ^ s) wide)
