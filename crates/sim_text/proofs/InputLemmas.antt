-- Lists of bits and their numbers.
use Rattle.std.proofs.Common.{◌≡◌, ℕ, ◌+◌, ◌-◌, ◌*◌, ◌^◌, ◌<◌, ◌≤◌, Bool, List, [], ◌∷◌, ◌++◌, length, All, sym, ap, ◌∙◌, subst, arith, append_assoc}
use Rattle.std.proofs.Math.Pow.{pow_mono}
use Rattle.std.proofs.lemmas.List.Elements.{All-from_get_or}
use Rattle.std.proofs.lemmas.Nat.{mul-le}
use Rattle.tsc_bits.specs.Bits.{bit_worth, bits_of, binary}
use Rattle.tsc_bits.proofs.Bits.{binary-lt, length-bits_of}
use Rattle.sim_text.specs.Tables.{AreAllInputs}
use Rattle.sim_text.proofs.LineLemmas.{bits_more}

-- ---- the number of some bits

pub few_states : (n : ℕ) → n ≤ 16 → 2 ^ n ≤ 65536
few_states n few = let most : 2 ^ n ≤ 2 ^ 16 = pow_mono few in omega arith

pub place_room : (state width : ℕ) (xs : List Bool) → state ≤ 65536 → width ≤ 1048576 → length xs ≤ 16 → state * width + binary xs < 2 ^ 64
place_room state width xs small few short =
    let product : state * width ≤ 65536 * 1048576 = mul-le state width 65536 1048576 small few in
    let fits : binary xs < 2 ^ length xs = binary-lt xs in
    let most : 2 ^ length xs ≤ 65536 = few_states (length xs) short in
    omega arith

-- ---- the bits of a number

pub bits_step : (n place x : ℕ) (bits made : List Bool) (b : Bool) → place < n → made ≡ bits ++ b ∷ [] → b ≡ bit_worth (n - 1 - place) x
    → made ++ bits_of (n - (place + 1)) x ≡ bits ++ bits_of (n - place) x
bits_step n place x bits made b below written is =
    let rest : List Bool = bits_of (n - (place + 1)) x in
    ap (λ list. list ++ rest) written
    ∙ (append_assoc bits (b ∷ []) rest
    ∙ (ap (λ k. bits ++ k ∷ rest) is
    ∙ ap (λ (list : List Bool). bits ++ list) (sym (bits_more n place x below))))

-- ---- all inputs

pub all_lengths : (n : ℕ) (xs : List (List Bool)) → AreAllInputs n xs → All (λ x. length x ≡ n) xs
all_lengths n xs are =
    All-from_get_or (λ (x : List Bool). length x ≡ n) xs []
    (λ i inside. let below : i < 2 ^ n = subst (λ k. i < k) are.sized inside in ap length (are.each i below) ∙ length-bits_of n i)
