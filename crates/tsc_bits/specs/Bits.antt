-- A list of n bits as a number, the first bit worth `2 ^ (n - 1)`, and back.
use Rattle.std.specs.Prelude.{ℕ, zero, suc, ◌+◌, ◌*◌, ◌/◌, ◌%◌, ◌^◌, ◌==◌, Bool, true, false, not, List, [], ◌∷◌, length}

-- the two bits are the same
abbrev pub same : Bool → Bool → Bool
same true b = b
same false b = not b

-- a bit as a number
abbrev pub weight_of : Bool → ℕ
weight_of true = 1
weight_of false = 0

-- the bit of a number that is worth 2 ^ k
abbrev pub bit_worth : ℕ → ℕ → Bool
bit_worth k x = x / 2 ^ k % 2 == 1

-- the last n bits of a number, the most significant first
abbrev pub bits_of : ℕ → ℕ → List Bool
bits_of zero x = []
bits_of (suc n) x = bit_worth n x ∷ bits_of n x

-- the number that a list of bits stands for, the first most significant
abbrev pub binary : List Bool → ℕ
binary [] = 0
binary (b ∷ bits) = weight_of b * 2 ^ length bits + binary bits
