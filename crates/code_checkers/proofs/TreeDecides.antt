-- The rails of a tree differ exactly where each of its pairs does.
use Rattle.std.specs.Prelude.{◌≡◌, ◌↔◌, ℕ, zero, suc, ◌+◌, ◌*◌, ◌<◌, Bool, true, List, length, get_or, refl}
use Rattle.std.specs.List.{list_all}
use Rattle.std.proofs.Common.{sym, ◌∙◌, ap, subst, arith}
use Rattle.std.proofs.lemmas.Bool.Decides.{Decides-by_and}
use Rattle.tsc_bits.proofs.Bools.{differ-iff}
use Rattle.code_checkers.specs.Signal.{Pair, value, pair_differs}
use Rattle.code_checkers.specs.Signal.Signal.{Word}
use Rattle.code_checkers.specs.TwoRail.{tree}
use Rattle.code_checkers.specs.GateList.{GateList}
use Rattle.code_checkers.specs.Tree.{word_pairs, IsTreeOf, AllDiffer, RailsOverDiffer, WordPairsDiffer, MadeRailsDiffer}
use Rattle.code_checkers.proofs.TwoRail.{tree-differs}
use Rattle.code_checkers.proofs.TreeSize.{length-word_pairs}

-- each pair differs, by its test
all-differ : (w : List Bool) (pairs : List Pair) → (list_all (pair_differs w) pairs ≡ true) ↔ AllDiffer w pairs
all-differ w pairs =
    Decides-by_and (pair_differs w) (λ pair. value w pair.first ≡ value w pair.second → ⊥) (list_all (pair_differs w))
    (λ pair. let e = differ-iff (value w pair.first) (value w pair.second) in (e.0, e.1)) refl (λ pair pairs. refl) pairs

-- the rails over pairs differ exactly where each pair does
pub rails_over_decide : (pairs : List Pair) (w : List Bool) → 0 < length pairs → RailsOverDiffer w pairs ↔ AllDiffer w pairs
rails_over_decide pairs w some =
    let e = differ-iff (value w (tree pairs).first) (value w (tree pairs).second) in
    let all = all-differ w pairs in
    let same = tree-differs w pairs some in
    (λ d. all.0 (sym same ∙ e.1 d), λ h. e.0 (same ∙ all.1 h))

-- the pair at a place
word_pair-at : (place count k : ℕ) (d : Pair) → k < count → get_or (word_pairs place count) k d ≡ record { first = Word (place + 2 * k); second = Word (place + 2 * k + 1) }
word_pair-at place zero k d lt = absurd (omega arith)
word_pair-at place (suc count) zero d lt =
    let e : place ≡ place + 2 * 0 = omega arith in
    ap (λ n. let pair : Pair = record { first = Word n; second = Word (n + 1) } in pair) e
word_pair-at place (suc count) (suc k) d lt =
    let e : place + 2 + 2 * k ≡ place + 2 * suc k = omega arith in
    word_pair-at (place + 2) count k d (omega arith) ∙ ap (λ n. let pair : Pair = record { first = Word n; second = Word (n + 1) } in pair) e

word_pairs-differ : (pairs : ℕ) (w : List Bool) → AllDiffer w (word_pairs 0 pairs) ↔ WordPairsDiffer w pairs
word_pairs-differ pairs w = (to, from)
  where
    Splits : Pair → Type 0
    Splits pair = value w pair.first ≡ value w pair.second → ⊥

    at : (k : ℕ) (d : Pair) → k < pairs → get_or (word_pairs 0 pairs) k d ≡ record { first = Word (2 * k); second = Word (2 * k + 1) }
    at k d lt =
        let e : 0 + 2 * k ≡ 2 * k = omega arith in
        word_pair-at 0 pairs k d lt ∙ ap (λ n. let pair : Pair = record { first = Word n; second = Word (n + 1) } in pair) e

    to : AllDiffer w (word_pairs 0 pairs) → WordPairsDiffer w pairs
    to all k lt =
        let d : Pair = record { first = Word 0; second = Word 0 } in
        subst (λ (pair : Pair). value w pair.first ≡ value w pair.second → ⊥) (at k d lt) (all k d (omega (arith, length-word_pairs 0 pairs)))

    from : WordPairsDiffer w pairs → AllDiffer w (word_pairs 0 pairs)
    from h k d lt =
        let within : k < pairs = omega (arith, length-word_pairs 0 pairs) in
        subst (λ (pair : Pair). value w pair.first ≡ value w pair.second → ⊥) (sym (at k d within)) (h k within)

-- the rails of the tree over the pairs of a word differ exactly where the two bits of each pair do
pub tree_decides : (pairs : ℕ) (made : GateList) (w : List Bool) → 0 < pairs → IsTreeOf pairs made → MadeRailsDiffer w made ↔ WordPairsDiffer w pairs
tree_decides pairs made w some is =
    let rails = rails_over_decide (word_pairs 0 pairs) w (omega (arith, length-word_pairs 0 pairs)) in
    let words = word_pairs-differ pairs w in (
      λ d. words.0 (rails.0 (λ e. d (ap (value w) is.first ∙ e ∙ sym (ap (value w) is.second)))),
      λ h e. rails.1 (words.1 h) (sym (ap (value w) is.first) ∙ e ∙ ap (value w) is.second),
    )
