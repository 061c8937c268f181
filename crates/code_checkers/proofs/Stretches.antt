-- Stretches of the word in a draft: their pairs.
use Rattle.std.specs.Prelude.{◌≡◌, ℕ, ◌+◌, List, ◌++◌, reverse, length}
use Rattle.std.proofs.Common.{sym, ◌∙◌, ap, subst}
use Rattle.std.proofs.lemmas.List.{length-map, map-append}
use Rattle.std.proofs.lemmas.List.Elements.{All-append}
use Rattle.code_checkers.specs.declared.gate.CheckGate.{CheckGate}
use Rattle.code_checkers.specs.declared.pair_places.PairPlaces.{PairPlaces}
use Rattle.code_checkers.specs.Signal.{Signal, Pair, words_from}
use Rattle.code_checkers.specs.Threshold.{threshold_pair}
use Rattle.code_checkers.specs.Counter.{count_zeros}
use Rattle.code_checkers.specs.Checker.{count_pairs}
use Rattle.code_checkers.specs.Gates.{meaning}
use Rattle.code_checkers.specs.Draft.{meanings, AreAdded, pair_at, pairs_at, PairIsWithin, PairIsAdded, PairsAreAdded}
use Rattle.code_checkers.proofs.Words.{length-words_from}
use Rattle.tsc_bits.proofs.Lists.{map-reverse}
use Rattle.code_checkers.proofs.Kept.{Keeps-trans, meanings_kept, pairs_kept, PairsAreWithin_kept}

pub length-words_added : (a b : List CheckGate) (first count : ℕ) (places : List ℕ) → AreAdded a b (words_from first count) places → length places ≡ count
length-words_added a b first count places h = sym (length-map places (meaning b)) ∙ ap length h.mean ∙ length-words_from first count

pub stretches_added : (a b c d : List CheckGate) (place first second m : ℕ) (firsts seconds : List ℕ) (p : PairPlaces)
    → AreAdded a b (words_from place first) firsts → AreAdded b c (words_from (place + first) second) seconds
    → PairIsAdded c d (threshold_pair (meanings c firsts) (meanings c seconds) m) p
    → PairIsAdded a d (threshold_pair (words_from place first) (words_from (place + first) second) m) p
stretches_added a b c d place first second m firsts seconds p one other pair =
    let at_first : meanings c firsts ≡ words_from place first = meanings_kept other.keeps firsts one.within ∙ one.mean in
    record {
      means =
          pair.means ∙ ap (λ (ss : List Signal). threshold_pair ss (meanings c seconds) m) at_first
          ∙ ap (λ (ss : List Signal). threshold_pair (words_from place first) ss m) other.mean;
      within = pair.within;
      keeps = Keeps-trans one.keeps (Keeps-trans other.keeps pair.keeps);
    }

pub berger_added : (a b c d : List CheckGate) (outputs : ℕ) (items bits turned : List ℕ) (ps : List PairPlaces)
    → AreAdded a b (words_from 0 outputs) items → AreAdded b c (count_zeros (meanings b items)) bits → turned ≡ reverse bits
    → PairsAreAdded c d (count_pairs outputs (meanings c turned)) ps
    → PairsAreAdded a d (count_pairs outputs (reverse (count_zeros (words_from 0 outputs)))) ps
berger_added a b c d outputs items bits turned ps one counted e pairs = record {
  mean =
      pairs.mean
      ∙ ap (count_pairs outputs) (ap (meanings c) e ∙ map-reverse (meaning c) bits ∙ ap reverse (counted.mean ∙ ap count_zeros one.mean));
  within = pairs.within;
  keeps = Keeps-trans one.keeps (Keeps-trans counted.keeps pairs.keeps);
}

-- pairs and then more pairs
pub pairs_joined : (a b c : List CheckGate) (first second : List Pair) (ps qs all : List PairPlaces)
    → PairsAreAdded a b first ps → PairsAreAdded b c second qs → all ≡ ps ++ qs → PairsAreAdded a c (first ++ second) all
pairs_joined a b c first second ps qs all one other e =
    subst (λ (rs : List PairPlaces). PairsAreAdded a c (first ++ second) rs) (sym e) (record {
      mean = map-append (pair_at c) ps qs ∙ ap (λ rs. rs ++ pairs_at c qs) (pairs_kept other.keeps ps one.within ∙ one.mean) ∙ ap (λ rs. first ++ rs) other.mean;
      within = All-append (PairIsWithin c) ps qs (PairsAreWithin_kept other.keeps ps one.within) other.within;
      keeps = Keeps-trans one.keeps other.keeps;
    })

pub length-pairs_added : (a b : List CheckGate) (pairs : List Pair) (ps : List PairPlaces) → PairsAreAdded a b pairs ps → length ps ≡ length pairs
length-pairs_added a b pairs ps h = sym (length-map ps (pair_at b)) ∙ ap length h.mean
