-- On the word of a state its own decoded line is 1 and no other, so a choice gives that state's line.
use Rattle.std.specs.Prelude.{◌≡◌, ℕ, zero, suc, ◌<◌, ◌≤◌, Bool, true, false, ◌&&◌, ◌||◌, List, [], ◌∷◌, map, length, get_or, refl}
use Rattle.std.proofs.Common.{sym, ◌∙◌, ap, arith, inl, inr}
use Rattle.std.proofs.lemmas.Bool.{false≢true, cases_Bool}
use Rattle.std.proofs.lemmas.List.{length-map, get_or-map, ext_get_or}
use Rattle.std.proofs.lemmas.List.FromFn.{length-map-range_with_len, get_or-map-range_with_len}
use Rattle.fault_secure.specs.Circuit.{bit}
use Rattle.tsc_bits.specs.Bits.{bits_of}
use Rattle.tsc_bits.specs.Counting.{ones, some_both}
use Rattle.tsc_bits.proofs.Bits.{length-bits_of}
use Rattle.tsc_bits.proofs.Counting.{ones-cons}
use Rattle.state_code.specs.Words.{AreStateWords}
use Rattle.state_code.specs.Lines.{first_bits, has_ones, decoded}

-- the first bits of a list are the list
first_bits_of : (n : ℕ) (bits : List Bool) → length bits ≡ n → first_bits n (bit bits) ≡ bits
first_bits_of n bits sized =
    ext_get_or false (first_bits n (bit bits)) bits (length-map-range_with_len (bit bits) 0 n ∙ sym sized)
    (λ i lt. get_or-map-range_with_len (bit bits) 0 n i i false (omega (arith, length-map-range_with_len (bit bits) 0 n)) (omega arith))

-- a word has its own ones
has_ones-same : (bits : List Bool) → has_ones bits bits ≡ true
has_ones-same [] = refl
has_ones-same (true ∷ bits) = has_ones-same bits
has_ones-same (false ∷ bits) = has_ones-same bits

-- a word whose ones stand among bits of the same length has at most as many
has_ones-few : (word bits : List Bool) → length word ≡ length bits → has_ones word bits ≡ true → ones word ≤ ones bits
has_ones-few [] bits sized h = omega arith
has_ones-few (w ∷ word) [] sized h = absurd (omega arith)
has_ones-few (true ∷ word) (true ∷ bits) sized h = omega (arith, has_ones-few word bits (omega arith) h, ones-cons true word, ones-cons true bits)
has_ones-few (true ∷ word) (false ∷ bits) sized h = absurd (false≢true h)
has_ones-few (false ∷ word) (true ∷ bits) sized h = omega (arith, has_ones-few word bits (omega arith) h, ones-cons false word, ones-cons true bits)
has_ones-few (false ∷ word) (false ∷ bits) sized h = omega (arith, has_ones-few word bits (omega arith) h, ones-cons false word, ones-cons false bits)

-- and where it has as many, it is the same word
has_ones-equal : (word bits : List Bool) → length word ≡ length bits → ones word ≡ ones bits → has_ones word bits ≡ true → word ≡ bits
has_ones-equal [] [] sized same h = refl
has_ones-equal [] (b ∷ bits) sized same h = absurd (omega arith)
has_ones-equal (w ∷ word) [] sized same h = absurd (omega arith)
has_ones-equal (true ∷ word) (true ∷ bits) sized same h = ap (λ (rest : List Bool). true ∷ rest) (has_ones-equal word bits (omega arith) (omega (arith, same, ones-cons true word, ones-cons true bits)) h)
has_ones-equal (true ∷ word) (false ∷ bits) sized same h = absurd (false≢true h)
has_ones-equal (false ∷ word) (true ∷ bits) sized same h =
    let few : ones word ≤ ones bits = has_ones-few word bits (omega arith) h in
    absurd (omega (arith, few, same, ones-cons false word, ones-cons true bits))
has_ones-equal (false ∷ word) (false ∷ bits) sized same h = ap (λ (rest : List Bool). false ∷ rest) (has_ones-equal word bits (omega arith) (omega (arith, same, ones-cons false word, ones-cons false bits)) h)

-- one list is 1 at one place alone
pub record IsOnlyAt (bits : List Bool) (i : ℕ) : Type 0 where
  pub here : bit bits i ≡ true
  pub others : (j : ℕ) → j < length bits → (j ≡ i → ⊥) → bit bits j ≡ false

none_both : (as_ bs : List Bool) → ((j : ℕ) → j < length as_ → bit as_ j ≡ false) → some_both as_ bs ≡ false
none_both [] bs none = refl
none_both (a ∷ as_) [] none = refl
none_both (a ∷ as_) (b ∷ bs) none =
    ap (λ (v : Bool). (v && b) || some_both as_ bs) (none 0 (omega arith)) ∙ none_both as_ bs (λ j lt. none (suc j) (omega arith))

or_right : (b c : Bool) → c ≡ false → (b || c) ≡ b
or_right true c e = refl
or_right false c e = e

-- a choice by a list that is 1 at one place alone
only_both : (as_ bs : List Bool) (i : ℕ) → IsOnlyAt as_ i → length as_ ≡ length bs → i < length as_ → some_both as_ bs ≡ bit bs i
only_both [] bs i only sized lt = absurd (omega arith)
only_both (a ∷ as_) [] i only sized lt = absurd (omega arith)
only_both (a ∷ as_) (b ∷ bs) zero only sized lt =
    let rest : some_both as_ bs ≡ false = none_both as_ bs (λ j less. only.others (suc j) (omega arith) (λ e. absurd (omega arith))) in
    ap (λ (v : Bool). (v && b) || some_both as_ bs) only.here ∙ or_right b (some_both as_ bs) rest
only_both (a ∷ as_) (b ∷ bs) (suc i) only sized lt =
    let first : a ≡ false = only.others 0 (omega arith) (λ e. absurd (omega arith)) in
    ap (λ (v : Bool). (v && b) || some_both as_ bs) first
    ∙ only_both as_ bs i (record { here = only.here; others = λ j less differs. only.others (suc j) (omega arith) (λ e. differs (omega arith)) }) (omega arith) (omega arith)

module _ (n m : ℕ) (words : List ℕ) (fit : AreStateWords n m (length words) (map (bits_of n) words)) where
  word_bits : (i : ℕ) → i < length words → get_or (map (bits_of n) words) i [] ≡ bits_of n (get_or words i 0)
  word_bits i lt = get_or-map (bits_of n) words i 0 [] lt

  -- two words of the states have the same bits only where they are of the same state
  differ_at : (i j : ℕ) → i < length words → j < length words → bits_of n (get_or words i 0) ≡ bits_of n (get_or words j 0) → j ≡ i
  differ_at i j lt_i lt_j same =
      let e = word_bits i lt_i ∙ same ∙ sym (word_bits j lt_j) in
      let sized = length-map words (bits_of n) in
      grind (arith, e, sized, fit.distinct i j, fit.distinct j i)

  weight_at : (i : ℕ) → i < length words → ones (bits_of n (get_or words i 0)) ≡ m
  weight_at i lt = ap ones (sym (word_bits i lt)) ∙ fit.weighed i [] (omega (arith, length-map words (bits_of n)))

  decoded_at : (i j : ℕ) → j < length words → bit (map (decoded n (bit (bits_of n (get_or words i 0)))) words) j ≡ has_ones (bits_of n (get_or words j 0)) (bits_of n (get_or words i 0))
  decoded_at i j lt =
      get_or-map (decoded n (bit (bits_of n (get_or words i 0)))) words j 0 false lt
      ∙ ap (has_ones (bits_of n (get_or words j 0))) (first_bits_of n (bits_of n (get_or words i 0)) (length-bits_of n (get_or words i 0)))

  -- on a state's word the decoded lines are 1 at that state alone
  pub decoded_alone : (i : ℕ) → i < length words → IsOnlyAt (map (decoded n (bit (bits_of n (get_or words i 0)))) words) i
  decoded_alone i lt = record {
    here = decoded_at i i lt ∙ has_ones-same (bits_of n (get_or words i 0));
    others = λ j less differs.
        let within : j < length words = omega (arith, length-map words (decoded n (bit (bits_of n (get_or words i 0))))) in
        elim (cases_Bool (has_ones (bits_of n (get_or words j 0)) (bits_of n (get_or words i 0)))) [
          | inl yes_ ↦ absurd (differs (differ_at i j lt within (sym (has_ones-equal (bits_of n (get_or words j 0)) (bits_of n (get_or words i 0)) (length-bits_of n (get_or words j 0) ∙ sym (length-bits_of n (get_or words i 0))) (weight_at j within ∙ sym (weight_at i lt)) yes_))))
          | inr no_ ↦ decoded_at i j within ∙ no_
        ];
  }

  -- so a choice gives that state's bit
  pub selected_at : (bits : List Bool) (i : ℕ) → length bits ≡ length words → i < length words → some_both (map (decoded n (bit (bits_of n (get_or words i 0)))) words) bits ≡ bit bits i
  selected_at bits i sized lt =
      let same = length-map words (decoded n (bit (bits_of n (get_or words i 0)))) in
      only_both (map (decoded n (bit (bits_of n (get_or words i 0)))) words) bits i (decoded_alone i lt) (omega (arith, same, sized)) (omega (arith, same))
