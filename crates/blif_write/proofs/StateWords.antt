-- The words of the states, and the states of the words.
use Rattle.std.proofs.Common.{◌≡◌, ℕ, zero, suc, ◌+◌, ◌<◌, Bool, true, false, cond, eqb, List, [], ◌∷◌, length, map, refl, sym, ap, ap₂, ◌∙◌, arith, All}
use Rattle.std.specs.List.{fold}
use Rattle.std.proofs.lemmas.List.Elements.{All-head}
use Rattle.tsc_bits.specs.Counting.{ones}
use Rattle.blif_read.specs.PlanText.{bits_of_word, ones_of_word, weight_of}
use Rattle.blif_write.specs.Layout.{word_of_bits}

-- the words of the states
pub bits-back : (bits : List Bool) → bits_of_word (word_of_bits bits) ≡ bits
bits-back [] = refl
bits-back (true ∷ bits) = ap (λ rest. true ∷ rest) (bits-back bits)
bits-back (false ∷ bits) = ap (λ rest. false ∷ rest) (bits-back bits)

pub states-back : (states : List (List Bool)) → map bits_of_word (map word_of_bits states) ≡ states
states-back [] = refl
states-back (bits ∷ states) = ap₂ (λ x xs. x ∷ xs) (bits-back bits) (states-back states)

ones-from : (a : ℕ) (bits : List Bool) → fold (λ n x. n + cond (eqb x 49) 1 0) a (word_of_bits bits) ≡ fold (λ n x. n + cond x 1 0) a bits
ones-from a [] = refl
ones-from a (true ∷ bits) = ones-from (a + 1) bits
ones-from a (false ∷ bits) = ones-from (a + 0) bits

pub ones-back : (bits : List Bool) → ones_of_word (word_of_bits bits) ≡ ones bits
ones-back bits = ones-from 0 bits

pub weight-back : (states : List (List Bool)) (latches weight : ℕ) → (latches ≡ 0 → weight ≡ 0) → (0 < latches → 0 < length states) → All (λ state. ones state ≡ weight) states → weight_of (map word_of_bits states) ≡ weight
weight-back [] zero weight none some h = sym (none refl)
weight-back [] (suc latches) weight none some h = let many : 0 < zero = some (omega arith) in absurd (omega arith)
weight-back (bits ∷ states) latches weight none some h =
    let Weighed : List Bool → Type 0 = λ state. ones state ≡ weight in
    ones-back bits ∙ All-head Weighed bits states h
