-- A state that has a word is listed; and one that is found has a word.
use Rattle.std.proofs.Common.{◌≡◌, ℕ, zero, suc, ◌<◌, ◌==◌, Bool, true, false, if◌then◌else◌, List, [], ◌∷◌, length, position, Some, None, slice_get, slice_index_or, refl, sym, ap, ◌∙◌, arith}
use Rattle.std.proofs.lemmas.Bool.{eqb-true}
use Rattle.std.proofs.lemmas.Bool.Decides.{nat_tests}
use Rattle.std.proofs.lemmas.Option.{slice_get_within}
use Rattle.fault_secure.specs.CodePlan.{CodePlan}
use Rattle.fault_secure.specs.FaultSecure.{equal_bits, state_at}
use Rattle.fault_secure.specs.Exposing.{word_of_state, listed_states}
use Rattle.tsc_bits.proofs.Lists.{found_at}
use Rattle.fault_secure.proofs.EqualBits.{same_bits}

-- where only state 0 has a word, a state that has a word is below 1
pub zero_state : (q : ℕ) (w : List Bool) (b : Bool) → (q == 0) ≡ b → (if b then Some [] else None) ≡ Some w → q < 1
zero_state q w true is e = grind (arith, nat_tests)
zero_state q w false is e = let absent : None ≡ Some w = e in cc

state_listed : (b : Bool) (states : List (List Bool)) (q : ℕ) (w : List Bool)
    → (if b then (if q == 0 then Some [] else None) else slice_get states q) ≡ Some w → q < (if b then 1 else length states)
state_listed true states q w e = zero_state q w (q == 0) refl e
state_listed false states q w e = slice_get_within states q w e

-- a state that has a word is listed
pub is_listed_state : (P : CodePlan) (q : ℕ) (w : List Bool) → word_of_state P q ≡ Some w → q < listed_states P
is_listed_state P q w e = state_listed (P.latches == 0) P.states q w e

-- the state that is found has a word that agrees with the bits, as far as there are latches
pub record HasWordLike (P : CodePlan) (q : ℕ) (s : List Bool) : Type 0 where
  pub word : List Bool
  pub is_state : word_of_state P q ≡ Some word
  pub alike : (0 < P.latches) → word ≡ s

like : (P : CodePlan) (b : Bool) → (P.latches == 0) ≡ b → (s : List Bool) (q : ℕ) → (if b then Some 0 else position (equal_bits s) P.states) ≡ Some q → HasWordLike P q s
like P true none s q is = record {
  word = [];
  is_state =
      let same : 0 ≡ q = some_of 0 q is in
      ap (λ (b : Bool). if b then (if q == 0 then Some [] else None) else slice_get P.states q) none
      ∙ ap (λ (n : ℕ). if n == 0 then Some [] else None) (sym same);
  alike = λ some. let e : P.latches ≡ 0 = eqb-true P.latches 0 none in absurd (omega arith);
}
  where
    some_of : (a b : ℕ) → Some a ≡ Some b → a ≡ b
    some_of a b e = cc
like P false some s q is =
    let found = found_at (equal_bits s) P.states q [] is in
    record {
      word = slice_index_or P.states q [];
      is_state = ap (λ (b : Bool). if b then (if q == 0 then Some [] else None) else slice_get P.states q) some ∙ read P.states q found.0;
      alike = λ _. sym (same_bits s (slice_index_or P.states q []) found.1);
    }
  where
    read : (states : List (List Bool)) (q : ℕ) → q < length states → slice_get states q ≡ Some (slice_index_or states q [])
    read (state ∷ states) zero inside = refl
    read (state ∷ states) (suc q) inside = read states q (omega arith)
    read [] q inside = absurd (omega arith)

-- the state that is found for some bits has a word that agrees with them, as far as there are latches
pub has_word_like : (P : CodePlan) (s : List Bool) (q : ℕ) → state_at P s ≡ Some q → HasWordLike P q s
has_word_like P s q is = like P (P.latches == 0) refl s q is
