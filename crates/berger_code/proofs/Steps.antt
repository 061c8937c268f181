-- What the calls that build a counter of zeros add to a network.
use Rattle.std.specs.Prelude.{◌≡◌, ℕ, ◌+◌, ◌^◌, ◌<◌, ◌≤◌, ◌==◌, Bool, true, false, not, ◌&&◌, if◌then◌else◌, List, [], ◌∷◌, ◌++◌, map, reverse, length, take, drop, get_or, All}
use Rattle.std.specs.List.{AllByRecursion}
use Rattle.std.proofs.Common.{sym, ◌∙◌, ap, subst, arith}
use Rattle.std.proofs.lemmas.List.{length-map, length-take, map-append, reverse-append, drop_all, append-nil}
use Rattle.std.proofs.lemmas.List.Elements.{recursion_from_All, All-from_recursion, All-append}
use Rattle.std.proofs.lemmas.List.Sums.{count_by-le-length}
use Rattle.tsc_bits.specs.Bits.{weight_of, bits_of, binary}
use Rattle.tsc_bits.proofs.Bits.{bits_of-binary}
use Rattle.tsc_bits.specs.Counting.{differ, zeros, counted, add_carry}
use Rattle.gate_net.specs.declared.line.Line.{Line}
use Rattle.gate_net.specs.Gates.{GateNetwork, IsLine, AreLines, line_value, line_values}
use Rattle.gate_net.specs.Growth.{Grows, Computes, ComputesAll}
use Rattle.gate_net.proofs.Kept.{grows_twice, bits_pushed, bit_read, values_kept, values_step}
use Rattle.berger_code.specs.Counter.{CountsZeros}
use Rattle.tsc_bits.proofs.Counting.{zeros-push, length-add_carry, counted-more, binary-reverse, carry_step}
use Rattle.tsc_bits.proofs.Lists.{map-reverse}

-- a bit more of a counter to which a carry is added
pub carry_more : (start here new : GateNetwork) (bits next next' : List Line) (carried sum carry none : Line) (longer : Bool) (goal : (ℕ → Bool) → (ℕ → Bool) → List Bool) (i : ℕ)
    → Grows start here → AreLines start bits → AreLines here next → i < length bits
    → ((x s : ℕ → Bool) → line_values here x s next ++ add_carry longer (line_value here x s carried) (drop i (line_values start x s bits)) ≡ goal x s)
    → Computes here new (λ x s. differ (line_value here x s (get_or bits i none)) (line_value here x s carried)) sum
    → Computes here new (λ x s. line_value here x s (get_or bits i none) && line_value here x s carried) carry
    → next' ≡ next ++ sum ∷ []
    → (x s : ℕ → Bool) → line_values new x s next' ++ add_carry longer (line_value new x s carry) (drop (i + 1) (line_values start x s bits)) ≡ goal x s
carry_more start here new bits next next' carried sum carry none longer goal i grows within made_within lt made sums carries e x s =
    let b : Bool = line_value here x s (get_or bits i none) in
    let pushed = bits_pushed start here new next next' sum (λ x s. differ (line_value here x s (get_or bits i none)) (line_value here x s carried)) grows made_within sums e in
    ap (λ bits'. bits' ++ add_carry longer (line_value new x s carry) (drop (i + 1) (line_values start x s bits))) (pushed.values x s)
    ∙ ap (λ c. (line_values here x s next ++ differ b (line_value here x s carried) ∷ []) ++ add_carry longer c (drop (i + 1) (line_values start x s bits))) (carries.value x s)
    ∙ carry_step longer (line_values here x s next) (line_values start x s bits) (goal x s) (line_value here x s carried) b (line_value start x s none) i
    (omega (arith, length-map bits (line_value start x s)))
    (sym (bit_read start here x s bits i none grows within lt))
    (made x s)

-- the end of a counter to which a carry was added, which gets longer
pub carry_longer : (start here : GateNetwork) (bits next next' : List Line) (carried : Line) (longer : Bool) (goal : (ℕ → Bool) → (ℕ → Bool) → List Bool) (i : ℕ)
    → Grows start here → AreLines here next → IsLine here carried → length bits ≤ i → longer ≡ true
    → ((x s : ℕ → Bool) → line_values here x s next ++ add_carry longer (line_value here x s carried) (drop i (line_values start x s bits)) ≡ goal x s)
    → next' ≡ next ++ carried ∷ [] → ComputesAll start here goal next'
carry_longer start here bits next next' carried longer goal i grows within line end is made e = record {
  values = λ x s.
      ap (line_values here x s) e
      ∙ map-append (line_value here x s) next (carried ∷ [])
      ∙ ap (λ (l : Bool). line_values here x s next ++ (if l then line_value here x s carried ∷ [] else [])) (sym is)
      ∙ ap (λ rest. line_values here x s next ++ add_carry longer (line_value here x s carried) rest) (sym (drop_all i (line_values start x s bits) (omega (arith, length-map bits (line_value start x s)))))
      ∙ made x s;
  within = subst (AreLines here) (sym e) (All-append (IsLine here) next (carried ∷ []) within (All-from_recursion (IsLine here) (carried ∷ []) (line, tt)));
  grows = grows;
}

-- the end of a counter to which a carry was added, which stays as long
pub carry_kept : (start here : GateNetwork) (bits next next' : List Line) (carried : Line) (longer : Bool) (goal : (ℕ → Bool) → (ℕ → Bool) → List Bool) (i : ℕ)
    → Grows start here → AreLines here next → length bits ≤ i → longer ≡ false
    → ((x s : ℕ → Bool) → line_values here x s next ++ add_carry longer (line_value here x s carried) (drop i (line_values start x s bits)) ≡ goal x s)
    → next' ≡ next → ComputesAll start here goal next'
carry_kept start here bits next next' carried longer goal i grows within end is made e = record {
  values = λ x s.
      ap (line_values here x s) e
      ∙ sym (append-nil (line_values here x s next))
      ∙ ap (λ (l : Bool). line_values here x s next ++ (if l then line_value here x s carried ∷ [] else [])) (sym is)
      ∙ ap (λ rest. line_values here x s next ++ add_carry longer (line_value here x s carried) rest) (sym (drop_all i (line_values start x s bits) (omega (arith, length-map bits (line_value start x s)))))
      ∙ made x s;
  within = subst (AreLines here) (sym e) within;
  grows = grows;
}

-- a carry that was made of an output, and added
pub counted_one : (a b c : GateNetwork) (bits next : List Line) (output carry : Line) (longer longer' : Bool) → AreLines a bits → longer ≡ longer' → Computes a b (λ x s. not (line_value a x s output)) carry
    → ComputesAll b c (λ x s. add_carry longer (line_value b x s carry) (line_values b x s bits)) next
    → ComputesAll a c (λ x s. add_carry longer' (not (line_value a x s output)) (line_values a x s bits)) next
counted_one a b c bits next output carry longer longer' within e first added = record {
  values = λ x s.
      added.values x s
      ∙ ap (λ l. add_carry l (line_value b x s carry) (line_values b x s bits)) e
      ∙ ap (λ v. add_carry longer' v (line_values b x s bits)) (first.value x s)
      ∙ ap (add_carry longer' (not (line_value a x s output))) (values_kept a b x s bits first.grows within);
  within = added.within;
  grows = grows_twice a b c first.grows added.grows;
}

-- counting on over one output more
pub counts_more : (start here new : GateNetwork) (outputs bits next : List Line) (none : Line) (number i : ℕ)
    → Grows start here → AreLines start outputs → i < length outputs → number ≡ i + 1 → number ≤ 2 ^ length bits
    → ((x s : ℕ → Bool) → counted (line_values here x s bits) ≡ zeros (line_values start x s (take i outputs)))
    → ComputesAll here new (λ x s. add_carry (number == 2 ^ length bits) (not (line_value here x s (get_or outputs i none))) (line_values here x s bits)) next
    → (x s : ℕ → Bool) → counted (line_values new x s next) ≡ zeros (line_values start x s (take (i + 1) outputs))
counts_more start here new outputs bits next none number i grows within lt at room counts added x s =
    let b : Bool = line_value here x s (get_or outputs i none) in
    let now : List Bool = line_values here x s bits in
    let sized : length now ≡ length bits = length-map bits (line_value here x s) in
    let past : List Bool = line_values start x s (take i outputs) in
    let below : zeros past < number = omega (arith, count_by-le-length not past, length-map (take i outputs) (line_value start x s), length-take i outputs) in
    ap counted (added.values x s)
    ∙ ap (λ k. counted (add_carry (number == 2 ^ k) (not b) now)) (sym sized)
    ∙ counted-more now (not b) (zeros past) number (counts x s) below (subst (λ (n : ℕ). number ≤ 2 ^ n) (sym sized) room)
    ∙ sym (ap zeros (values_step start here x s outputs i none grows within lt) ∙ zeros-push past b)

-- the number of bits after a carry was added
pub length_more : (here new : GateNetwork) (bits next : List Line) (longer : Bool) (carry : (ℕ → Bool) → (ℕ → Bool) → Bool)
    → ComputesAll here new (λ x s. add_carry longer (carry x s) (line_values here x s bits)) next → length next ≡ length bits + weight_of longer
length_more here new bits next longer carry added =
    let off : ℕ → Bool = λ n. false in
    sym (length-map next (line_value new off off))
    ∙ ap length (added.values off off)
    ∙ length-add_carry longer (carry off off) (line_values here off off bits)
    ∙ ap (λ n. n + weight_of longer) (length-map bits (line_value here off off))

all-reverse : {X : Type 0} (P : X → Type 0) (xs : List X) → AllByRecursion P xs → All P (reverse xs)
all-reverse P [] all = λ k d lt. absurd (omega arith)
all-reverse P (x ∷ xs) all = subst (All P) (sym (reverse-append (x ∷ []) xs)) (All-append P (reverse xs) (x ∷ []) (all-reverse P xs all.1) (All-from_recursion P (x ∷ []) (all.0, tt)))

-- counted bits, the most significant first, are a check
pub counts_are_check : (a b : GateNetwork) (outputs bits checks : List Line) → CountsZeros a b outputs bits → checks ≡ reverse bits
    → ComputesAll a b (λ x s. bits_of (length checks) (zeros (line_values a x s outputs))) checks
counts_are_check a b outputs bits checks h e = record {
  values = λ x s. same x s;
  within = subst (AreLines b) (sym e) (all-reverse (IsLine b) bits (recursion_from_All _ bits h.within));
  grows = h.grows;
}
  where
    same : (x s : ℕ → Bool) → line_values b x s checks ≡ bits_of (length checks) (zeros (line_values a x s outputs))
    same x s =
        let turned : line_values b x s checks ≡ reverse (line_values b x s bits) = ap (map (line_value b x s)) e ∙ map-reverse (line_value b x s) bits in
        let number : binary (line_values b x s checks) ≡ zeros (line_values a x s outputs) = ap binary turned ∙ binary-reverse (line_values b x s bits) ∙ h.counts x s in
        sym (bits_of-binary (line_values b x s checks))
        ∙ ap (λ n. bits_of n (binary (line_values b x s checks))) (length-map checks (line_value b x s))
        ∙ ap (bits_of (length checks)) number
