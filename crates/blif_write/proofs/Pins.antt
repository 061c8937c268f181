-- Bits and pins, one by one.
use Rattle.std.proofs.Common.{◌≡◌, ℕ, suc, ◌+◌, ◌-◌, ◌<◌, List, [], ◌∷◌, ◌++◌, ap, ◌∙◌, append_assoc, arith}
use Rattle.tsc_bits.specs.Bits.{bits_of, bit_worth}
use Rattle.blif_write.specs.Layout.{bit_character, word_of_bits}

pub bits-step : (out : List ℕ) (width pin word : ℕ) → pin < width → (out ++ bit_character (bit_worth (width - 1 - pin) word) ∷ []) ++ word_of_bits (bits_of (width - (pin + 1)) word) ≡ out ++ word_of_bits (bits_of (width - pin) word)
bits-step out width pin word h =
    let n = width - 1 - pin in
    let left : width - (pin + 1) ≡ n = omega arith in
    let one : suc n ≡ width - pin = omega arith in
    ap (λ m. (out ++ bit_character (bit_worth n word) ∷ []) ++ word_of_bits (bits_of m word)) left
    ∙ append_assoc out (bit_character (bit_worth n word) ∷ []) (word_of_bits (bits_of n word))
    ∙ ap (λ m. out ++ word_of_bits (bits_of m word)) one
