-- Where the word of a state stands in a plan, and what is known of a word that is found.
use Rattle.std.proofs.Common.{◌≡◌, ℕ, zero, suc, ◌+◌, ◌%◌, ◌^◌, ◌<◌, ◌==◌, Bool, true, false, not, cond, nat_lt, List, [], ◌∷◌, length, map, position, Some, None, slice_get, slice_index_or, refl, sym, ◌∙◌, ap, ap₂, subst, inl, inr, arith, if◌then◌else◌}
use Rattle.std.specs.List.{position_or_len}
use Rattle.std.proofs.lemmas.Bool.{cases_Bool, false≢true, eqb-true, eq-eqb}
use Rattle.std.proofs.lemmas.List.{length-map}
use Rattle.std.proofs.lemmas.Option.{slice_get_within, get_or_from_slice_get}
use Rattle.tsc_bits.specs.Bits.{bits_of, binary}
use Rattle.tsc_bits.proofs.Bits.{binary-bits_of_mod, bits_of-mod, bits_of-binary}
use Rattle.fault_secure.specs.CodePlan.{CodePlan}
use Rattle.fault_secure.specs.FaultSecure.{equal_bits, state_at}
use Rattle.fault_secure.specs.Exposing.{word_of_state, listed_states}
use Rattle.tsc_bits.proofs.Lists.{found_at, finds}
use Rattle.fault_secure.proofs.EqualBits.{same_bits, bits_same}
use Rattle.fault_secure.proofs.ListedStates.{zero_state}

-- the bits are those of a number where the number has them last
equal_numbers : (s : List Bool) (x : ℕ) → equal_bits s (bits_of (length s) x) ≡ (x % 2 ^ length s == binary s)
equal_numbers s x = elim (cases_Bool (equal_bits s (bits_of (length s) x))) [
  | inl yes_ ↦ (yes_ ∙ sym (eq-eqb (x % 2 ^ length s) (binary s) (sym (binary-bits_of_mod (length s) x) ∙ ap binary (sym (same_bits s (bits_of (length s) x) yes_)))))
  | inr no_ ↦ elim (cases_Bool (x % 2 ^ length s == binary s)) [
    | inl are ↦ (let e : x % 2 ^ length s ≡ binary s = eqb-true (x % 2 ^ length s) (binary s) are in
        let back : bits_of (length s) x ≡ s = sym (bits_of-mod (length s) x) ∙ (ap (bits_of (length s)) e ∙ bits_of-binary s) in
        absurd (false≢true (sym no_ ∙ (ap (equal_bits s) back ∙ bits_same s))))
    | inr differ ↦ no_ ∙ sym differ
  ]
]

first_number : (s : List Bool) (words : List ℕ) → position_or_len (equal_bits s) (map (bits_of (length s)) words) ≡ position_or_len (λ word. word % 2 ^ length s == binary s) words
first_number s [] = refl
first_number s (word ∷ words) = ap₂ (λ (b : Bool) (n : ℕ). cond (not b) (1 + n) 0) (equal_numbers s word) (first_number s words)

-- the place of the word with these bits is that of the first number with the same last bits
pub found_by_number : (s : List Bool) (width : ℕ) (words : List ℕ) → length s ≡ width
    → position (equal_bits s) (map (bits_of width) words) ≡ position (λ word. word % 2 ^ width == binary s) words
found_by_number s width words sized =
    subst (λ (n : ℕ). position (equal_bits s) (map (bits_of n) words) ≡ position (λ word. word % 2 ^ n == binary s) words) sized
    (ap₂ (λ (n m : ℕ). cond (nat_lt n m) (Some n) None) (first_number s words) (length-map words (bits_of (length s))))

-- a state that is found is listed
found_listed : (b : Bool) (states : List (List Bool)) (s : List Bool) (q : ℕ) → (if b then Some 0 else position (equal_bits s) states) ≡ Some q → q < (if b then 1 else length states)
found_listed true states s q is = let same : 0 ≡ q = some_of 0 q is in omega arith
  where
    some_of : (a b : ℕ) → Some a ≡ Some b → a ≡ b
    some_of a b e = cc
found_listed false states s q is = (found_at (equal_bits s) states q [] is).0

pub is_listed : (P : CodePlan) (s : List Bool) (q : ℕ) → state_at P s ≡ Some q → q < listed_states P
is_listed P s q is = found_listed (P.latches == 0) P.states s q is

-- the state that is found has a word that agrees with the bits, as far as there are latches
pub record HasWordLike (P : CodePlan) (q : ℕ) (s : List Bool) : Type 0 where
  pub word : List Bool
  pub is_state : word_of_state P q ≡ Some word
  pub alike : (0 < P.latches) → word ≡ s

like : (P : CodePlan) (b : Bool) → (P.latches == 0) ≡ b → (s : List Bool) (q : ℕ) → (if b then Some 0 else position (equal_bits s) P.states) ≡ Some q → HasWordLike P q s
like P true none s q is = record {
  word = [];
  is_state =
      let same : 0 ≡ q = some_of 0 q is in
      ap (λ (b : Bool). if b then (if q == 0 then Some [] else None) else slice_get P.states q) none
      ∙ ap (λ (n : ℕ). if n == 0 then Some [] else None) (sym same);
  alike = λ some. let e : P.latches ≡ 0 = eqb-true P.latches 0 none in absurd (omega arith);
}
  where
    some_of : (a b : ℕ) → Some a ≡ Some b → a ≡ b
    some_of a b e = cc
like P false some s q is =
    let found = found_at (equal_bits s) P.states q [] is in
    record {
      word = slice_index_or P.states q [];
      is_state = ap (λ (b : Bool). if b then (if q == 0 then Some [] else None) else slice_get P.states q) some ∙ read P.states q found.0;
      alike = λ _. sym (same_bits s (slice_index_or P.states q []) found.1);
    }
  where
    read : (states : List (List Bool)) (q : ℕ) → q < length states → slice_get states q ≡ Some (slice_index_or states q [])
    read (state ∷ states) zero inside = refl
    read (state ∷ states) (suc q) inside = read states q (omega arith)
    read [] q inside = absurd (omega arith)

pub has_word_like : (P : CodePlan) (s : List Bool) (q : ℕ) → state_at P s ≡ Some q → HasWordLike P q s
has_word_like P s q is = like P (P.latches == 0) refl s q is

-- the word of a state is that of no other
word_found : (b : Bool) (states : List (List Bool)) (q : ℕ) (w : List Bool)
    → ((i j : ℕ) → i < j → j < length states → slice_index_or states i [] ≡ slice_index_or states j [] → ⊥)
    → (if b then (if q == 0 then Some [] else None) else slice_get states q) ≡ Some w → (if b then Some 0 else position (equal_bits w) states) ≡ Some q
word_found true states q w distinct is = let zeroth : q < 1 = zero_state q w (q == 0) refl is in ap (λ (n : ℕ). Some n) (omega arith)
word_found false states q w distinct is =
    let inside : q < length states = slice_get_within states q w is in
    let at : slice_index_or states q [] ≡ w = get_or_from_slice_get states q w [] is in
    finds (equal_bits w) states q [] inside
    (λ k less. elim (cases_Bool (equal_bits w (slice_index_or states k []))) [
      | inl yes_ ↦ absurd (distinct k q less inside (sym (same_bits w (slice_index_or states k []) yes_) ∙ sym at))
      | inr no_ ↦ no_
    ])
    (ap (equal_bits w) at ∙ bits_same w)

pub state_of_word : (P : CodePlan) (q : ℕ) (w : List Bool) → ((i j : ℕ) → i < j → j < length P.states → slice_index_or P.states i [] ≡ slice_index_or P.states j [] → ⊥)
    → word_of_state P q ≡ Some w → state_at P w ≡ Some q
state_of_word P q w distinct is = word_found (P.latches == 0) P.states q w distinct is
