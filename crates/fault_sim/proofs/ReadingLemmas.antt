-- Numbers that are built bit by bit.
use Rattle.std.proofs.Common.{◌≡◌, ℕ, ◌+◌, ◌*◌, ◌^◌, ◌<◌, ◌≤◌, Bool, List, length, map, take, get_or, ap, ◌∙◌, arith}
use Rattle.std.proofs.Math.Pow.{pow_mono}
use Rattle.std.proofs.lemmas.List.{map_more, length-map, length-take}
use Rattle.tsc_bits.specs.Bits.{weight_of, binary}
use Rattle.tsc_bits.proofs.Bits.{binary-lt, binary-append}

-- one more item of a list
pub binary_more : {X : Type 0} (f : X → Bool) (xs : List X) (i : ℕ) (d : X) → i < length xs
    → binary (map f (take (i + 1) xs)) ≡ binary (map f (take i xs)) * 2 + weight_of (f (get_or xs i d))
binary_more f xs i d inside = ap binary (map_more f xs i d inside) ∙ binary-append (map f (take i xs)) (f (get_or xs i d))

-- there is room for one more of at most 64 bits
pub binary_room : {X : Type 0} (f : X → Bool) (xs : List X) (i : ℕ) → i < 64 → binary (map f (take i xs)) < 2 ^ 63
binary_room f xs i below =
    let short : length (map f (take i xs)) ≤ 63 = omega (arith, length-map (take i xs) f, length-take i xs) in
    let fits : binary (map f (take i xs)) < 2 ^ length (map f (take i xs)) = binary-lt (map f (take i xs)) in
    let most : 2 ^ length (map f (take i xs)) ≤ 2 ^ 63 = pow_mono short in
    omega arith
