-- The rails of a checker differ exactly where the word is a codeword.
use Rattle.std.specs.Prelude.{◌≡◌, ◌↔◌, ℕ, zero, suc, ◌+◌, ◌-◌, ◌/◌, ◌^◌, ◌<◌, ◌≤◌, Bool, true, ◌&&◌, List, [], ◌∷◌, map, reverse, length, take, drop, IsTrue, refl}
use Rattle.std.specs.List.{list_all}
use Rattle.std.proofs.Common.{sym, ◌∙◌, ap, subst, arith}
use Rattle.std.proofs.lemmas.List.{length-map, length-reverse, length-append, drop-drop, drop_all, take_rest, take-append-drop, length-drop}
use Rattle.std.proofs.lemmas.List.Sums.{sum_by-append}
use Rattle.std.proofs.lemmas.List.Folds.{list_all-append}
use Rattle.std.proofs.lemmas.Bool.{and_parts, and_from}
use Rattle.std.proofs.lemmas.Bool.Decides.{Decides-by_and}
use Rattle.tsc_bits.specs.Bits.{binary}
use Rattle.fault_secure.specs.declared.code.Code.{Code}
use Rattle.fault_secure.specs.declared.code.Code.TheVariants.{Parity, Berger, MOutOfN}
use Rattle.fault_secure.specs.CodePlan.{CodePlan, IsCodeword, IsChecked, IsWellMade, HasShape, IsBergerWidth, outputs_of, checks_of, next_of, bits_at, members}
use Rattle.tsc_bits.specs.Counting.{ones, zeros, odd}
use Rattle.code_checkers.specs.Signal.{Signal, Pair, value, pair_differs, words_from}
use Rattle.code_checkers.specs.Threshold.{threshold_pair}
use Rattle.code_checkers.specs.Counter.{count_zeros}
use Rattle.code_checkers.specs.Checker.{count_pairs, code_pairs, state_pairs, pairs_of, last_pair, rail1, rail2, IsWordOf, RailsDiffer}
use Rattle.tsc_bits.proofs.Bools.{differ-iff, and-true}
use Rattle.code_checkers.proofs.TwoRail.{tree-differs}
use Rattle.code_checkers.proofs.Groups.{group_pairs-differ, length-group_pairs, HasGroups-some}
use Rattle.code_checkers.proofs.Thresholds.{threshold_pair-differs}
use Rattle.code_checkers.proofs.Counting.{count_zeros-counted, length-count_zeros, count_pairs-differ, length-count_pairs}
use Rattle.tsc_bits.proofs.Counting.{binary-reverse, binary-injective}
use Rattle.code_checkers.proofs.Words.{length-words_from, words_from-bits}
use Rattle.tsc_bits.proofs.Lists.{map-reverse}

-- an equivalence along an equation of tests
along : {a b : Bool} {Q : Type 0} → a ≡ b → (b ≡ true) ↔ Q → (a ≡ true) ↔ Q
along e h = (λ p. h.0 (sym e ∙ p), λ q. e ∙ h.1 q)

parity-decides : (P : CodePlan) (w : List Bool) → HasShape Parity P → (list_all (pair_differs w) (code_pairs Parity P) ≡ true) ↔ IsChecked Parity P w
parity-decides P w shape =
    along (group_pairs-differ w P.outputs P.groups shape.filled)
    (Decides-by_and (λ group. odd (bits_at w group)) (λ group. IsTrue (odd (bits_at w group))) (list_all (λ group. odd (bits_at w group)))
    (λ group. (λ h. h, λ h. h)) refl (λ group groups. refl) (members P))

output_bits : (P : CodePlan) (w : List Bool) → P.outputs ≤ length w → map (value w) (words_from 0 P.outputs) ≡ outputs_of P w
output_bits P w h = words_from-bits w 0 P.outputs (omega arith)

check_bits : (P : CodePlan) (w : List Bool) (count : ℕ) → count ≡ length P.checks → P.outputs + length P.checks ≤ length w → map (value w) (words_from P.outputs count) ≡ checks_of P w
check_bits P w count e h = ap (λ n. map (value w) (words_from P.outputs n)) e ∙ words_from-bits w P.outputs (length P.checks) h

pub width_of : (P : CodePlan) → HasShape Berger P → length (reverse (count_zeros (words_from 0 P.outputs))) ≡ length P.checks
width_of P shape =
    let width : IsBergerWidth (length (words_from 0 P.outputs)) (length P.checks) =
    subst (λ (k : ℕ). IsBergerWidth k (length P.checks)) (sym (length-words_from 0 P.outputs)) shape.1 in
    length-reverse (count_zeros (words_from 0 P.outputs)) ∙ length-count_zeros (words_from 0 P.outputs) (length P.checks) width

counted_number : (P : CodePlan) (w : List Bool) → P.outputs ≤ length w → binary (map (value w) (reverse (count_zeros (words_from 0 P.outputs)))) ≡ zeros (outputs_of P w)
counted_number P w h =
    ap binary (map-reverse (value w) (count_zeros (words_from 0 P.outputs)))
    ∙ binary-reverse (map (value w) (count_zeros (words_from 0 P.outputs)))
    ∙ count_zeros-counted w (words_from 0 P.outputs)
    ∙ ap zeros (output_bits P w h)

berger-decides : (P : CodePlan) (w : List Bool) → HasShape Berger P → P.outputs + length P.checks ≤ length w → (list_all (pair_differs w) (code_pairs Berger P) ≡ true) ↔ IsChecked Berger P w
berger-decides P w shape h = (λ d. number (pairs.0 d), λ n. pairs.1 (word n))
  where
    counts : List Signal
    counts = reverse (count_zeros (words_from 0 P.outputs))

    pairs : (list_all (pair_differs w) (count_pairs P.outputs (reverse (count_zeros (words_from 0 P.outputs)))) ≡ true) ↔ (map (value w) (reverse (count_zeros (words_from 0 P.outputs))) ≡ map (value w) (words_from P.outputs (length (reverse (count_zeros (words_from 0 P.outputs))))))
    pairs = count_pairs-differ w P.outputs (reverse (count_zeros (words_from 0 P.outputs)))

    checks : map (value w) (words_from P.outputs (length (reverse (count_zeros (words_from 0 P.outputs))))) ≡ checks_of P w
    checks = check_bits P w (length (reverse (count_zeros (words_from 0 P.outputs)))) (width_of P shape) h

    number : map (value w) (reverse (count_zeros (words_from 0 P.outputs))) ≡ map (value w) (words_from P.outputs (length (reverse (count_zeros (words_from 0 P.outputs))))) → binary (checks_of P w) ≡ zeros (outputs_of P w)
    number e = sym (ap binary (e ∙ checks)) ∙ counted_number P w (omega arith)

    word : binary (checks_of P w) ≡ zeros (outputs_of P w) → map (value w) (reverse (count_zeros (words_from 0 P.outputs))) ≡ map (value w) (words_from P.outputs (length (reverse (count_zeros (words_from 0 P.outputs)))))
    word n =
        binary-injective (map (value w) (reverse (count_zeros (words_from 0 P.outputs)))) (map (value w) (words_from P.outputs (length (reverse (count_zeros (words_from 0 P.outputs))))))
        (length-map (reverse (count_zeros (words_from 0 P.outputs))) (value w)
        ∙ sym (length-map (words_from P.outputs (length (reverse (count_zeros (words_from 0 P.outputs))))) (value w) ∙ length-words_from P.outputs (length (reverse (count_zeros (words_from 0 P.outputs))))))
        (counted_number P w (omega arith) ∙ sym n ∙ sym (ap binary checks))

-- one pair
alone : (w : List Bool) (p : Pair) → list_all (pair_differs w) (p ∷ []) ≡ pair_differs w p
alone w p = and-true (pair_differs w p)

m_out_of_n-decides : (P : CodePlan) (w : List Bool) → 0 < P.outputs → HasShape MOutOfN P → P.outputs + length P.checks ≤ length w → (list_all (pair_differs w) (code_pairs MOutOfN P) ≡ true) ↔ IsChecked MOutOfN P w
m_out_of_n-decides P w some shape h =
    let room : P.outputs < length (words_from 0 P.outputs) + length (words_from P.outputs (length P.checks)) = omega (arith, length-words_from 0 P.outputs, length-words_from P.outputs (length P.checks), shape.1) in
    let pair = threshold_pair-differs w (words_from 0 P.outputs) (words_from P.outputs (length P.checks)) P.outputs some room in
    let e : ones (map (value w) (words_from 0 P.outputs)) + ones (map (value w) (words_from P.outputs (length P.checks))) ≡ ones (outputs_of P w) + ones (checks_of P w) =
    ap (λ bits. ones bits + ones (map (value w) (words_from P.outputs (length P.checks)))) (output_bits P w (omega arith))
    ∙ ap (λ bits. ones (outputs_of P w) + ones bits) (check_bits P w (length P.checks) refl h) in
    along (alone w (threshold_pair (words_from 0 P.outputs) (words_from P.outputs (length P.checks)) P.outputs))
    (λ d. sym e ∙ pair.0 d, λ n. pair.1 (e ∙ n))

-- the pairs of a code differ exactly where the word has its check
pub code_pairs-decide : (code : Code) (P : CodePlan) (w : List Bool) → 0 < P.outputs → HasShape code P → P.outputs + length P.checks ≤ length w
    → (list_all (pair_differs w) (code_pairs code P) ≡ true) ↔ IsChecked code P w
code_pairs-decide Parity P w some shape h = parity-decides P w shape
code_pairs-decide Berger P w some shape h = berger-decides P w shape h
code_pairs-decide MOutOfN P w some shape h = m_out_of_n-decides P w some shape h

code_pairs-some : (code : Code) (P : CodePlan) → 0 < P.outputs → HasShape code P → 0 < length (code_pairs code P)
code_pairs-some Parity P some shape = omega (arith, length-group_pairs P.outputs P.groups, HasGroups-some P shape some)
code_pairs-some Berger P some shape = omega (arith, length-count_pairs P.outputs (reverse (count_zeros (words_from 0 P.outputs))), width_of P shape, some_width P.outputs (length P.checks) some shape.1.0)
  where
    some_width : (k width : ℕ) → 0 < k → k < 2 ^ width → 0 < width
    some_width k zero some h = absurd (omega arith)
    some_width k (suc width) some h = omega arith
code_pairs-some MOutOfN P some shape = omega arith

-- the two halves of the bits after a place have all of their ones
halves : (w : List Bool) (place half count : ℕ) → half ≤ count → length w ≡ place + count
    → ones (map (value w) (words_from place half)) + ones (map (value w) (words_from (place + half) (count - half))) ≡ ones (drop place w)
halves w place half count within sized =
    ap (λ bits. ones bits + ones (map (value w) (words_from (place + half) (count - half)))) (words_from-bits w place half (omega arith))
    ∙ ap (λ bits. ones (take half (drop place w)) + ones bits) second
    ∙ sym (ap ones (sym (take-append-drop half (drop place w))) ∙ sum_by-append _ (take half (drop place w)) (drop half (drop place w)))
  where
    second : map (value w) (words_from (place + half) (count - half)) ≡ drop half (drop place w)
    second =
        let n : count - half ≡ length (drop place w) - half = omega (arith, length-drop place w) in
        words_from-bits w (place + half) (count - half) (omega arith)
        ∙ ap (take (count - half)) (sym (drop-drop half place w))
        ∙ ap (λ k. take k (drop half (drop place w))) n
        ∙ take_rest (drop place w) half

-- the pairs of the state bits from a place on all differ exactly where so many of these bits are 1 as the weight says
pub state_pairs-decide : (place latches weight : ℕ) (w : List Bool) → (latches ≡ 0 → weight ≡ 0) → (0 < latches → (0 < weight) × (weight < latches)) → length w ≡ place + latches
    → (list_all (pair_differs w) (state_pairs place latches weight) ≡ true) ↔ (ones (drop place w) ≡ weight)
state_pairs-decide place zero weight w none some sized =
    let nothing : ones (drop place w) ≡ 0 = ap ones (drop_all place w (omega arith)) in
    (λ d. nothing ∙ sym (none refl), λ n. refl)
state_pairs-decide place (suc latches) weight w none some sized =
    let A : List Signal = words_from place (suc latches / 2) in
    let B : List Signal = words_from (place + suc latches / 2) (suc latches - suc latches / 2) in
    let within : suc latches / 2 ≤ suc latches = omega arith in
    let bounds : (0 < weight) × (weight < suc latches) = some (omega arith) in
    let room : weight < length A + length B = omega (arith, length-words_from place (suc latches / 2), length-words_from (place + suc latches / 2) (suc latches - suc latches / 2), bounds.1) in
    let pair = threshold_pair-differs w A B weight bounds.0 room in
    let e : ones (map (value w) A) + ones (map (value w) B) ≡ ones (drop place w) = halves w place (suc latches / 2) (suc latches) within sized in
    along (alone w (threshold_pair A B weight)) (λ d. sym e ∙ pair.0 d, λ n. pair.1 (e ∙ n))

-- for every well-made plan and every word of its length the rails differ exactly where the word is a codeword
pub rails_decide : (P : CodePlan) (w : List Bool) → IsWellMade P → IsWordOf P w → RailsDiffer P w ↔ IsCodeword P w
rails_decide P w made sized = (to, from)
  where
    code : (list_all (pair_differs w) (code_pairs P.code P) ≡ true) ↔ IsChecked P.code P w
    code = code_pairs-decide P.code P w made.some_output made.shape (omega arith)

    state : (list_all (pair_differs w) (state_pairs (P.outputs + length P.checks) P.latches P.weight) ≡ true) ↔ (ones (drop (P.outputs + length P.checks) w) ≡ P.weight)
    state = state_pairs-decide (P.outputs + length P.checks) P.latches P.weight w (λ h. (made.states.none h).1) (λ h. let s = made.states.some h in (s.1, s.2)) sized

    next : ones (next_of P w) ≡ ones (drop (P.outputs + length P.checks) w)
    next = ap ones (drop-drop (length P.checks) P.outputs w)

    some : 0 < length (pairs_of P)
    some = omega (arith, length-append (code_pairs P.code P) (state_pairs (P.outputs + length P.checks) P.latches P.weight), code_pairs-some P.code P made.some_output made.shape)

    both : pair_differs w (last_pair P) ≡ list_all (pair_differs w) (code_pairs P.code P) && list_all (pair_differs w) (state_pairs (P.outputs + length P.checks) P.latches P.weight)
    both = tree-differs w (pairs_of P) some ∙ list_all-append (pair_differs w) (code_pairs P.code P) (state_pairs (P.outputs + length P.checks) P.latches P.weight)

    to : RailsDiffer P w → IsCodeword P w
    to h =
        let d = (differ-iff (value w (rail1 P)) (value w (rail2 P))).1 h in
        let parts = and_parts _ _ (sym both ∙ d) in
        record { checked = code.0 parts.0; weighed = next ∙ state.0 parts.1 }

    from : IsCodeword P w → RailsDiffer P w
    from h = (differ-iff (value w (rail1 P)) (value w (rail2 P))).0 (both ∙ and_from _ _ (code.1 h.checked) (state.1 (sym next ∙ h.weighed)))

-- a well-made plan has a pair
pub pairs_of-some : (P : CodePlan) → IsWellMade P → 0 < length (pairs_of P)
pairs_of-some P made =
    omega (arith, length-append (code_pairs P.code P) (state_pairs (P.outputs + length P.checks) P.latches P.weight), code_pairs-some P.code P made.some_output made.shape)
