-- Lists of bits, and what is counted in them.
use Rattle.std.specs.Prelude.{ℕ, ◌+◌, ◌*◌, Bool, true, false, not, ◌&&◌, ◌||◌, if◌then◌else◌, List, [], ◌∷◌, count_by}
use Rattle.tsc_bits.specs.Bits.{weight_of}

-- how many bits of the list are 1
abbrev pub ones : List Bool → ℕ
ones bits = count_by (λ b. b) bits

-- how many bits of the list are 0
abbrev pub zeros : List Bool → ℕ
zeros bits = count_by not bits

-- exclusive or
abbrev pub differ : Bool → Bool → Bool
differ true b = not b
differ false b = b

-- the list has an odd number of ones
abbrev pub odd : List Bool → Bool
odd [] = false
odd (b ∷ bits) = differ b (odd bits)

-- the number that bits stand for, the first least significant
abbrev pub counted : List Bool → ℕ
counted [] = 0
counted (b ∷ bits) = weight_of b + 2 * counted bits

-- a carry added to counted bits, the least significant first; where the counter gets longer, the last carry is a new bit
abbrev pub add_carry : Bool → Bool → List Bool → List Bool
add_carry longer carry [] = if longer then carry ∷ [] else []
add_carry longer carry (b ∷ bits) = differ b carry ∷ add_carry longer (b && carry) bits

-- at some place both lists are 1
abbrev pub some_both : List Bool → List Bool → Bool
some_both [] bs = false
some_both (a ∷ as_) [] = false
some_both (a ∷ as_) (b ∷ bs) = (a && b) || some_both as_ bs
