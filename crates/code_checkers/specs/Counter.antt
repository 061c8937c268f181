-- The counter of zeros of a Berger checker.
use Rattle.std.specs.Prelude.{ℕ, ◌+◌, ◌^◌, ◌==◌, Bool, if◌then◌else◌, List, [], ◌∷◌, length}
use Rattle.code_checkers.specs.Signal.{Signal}
use Rattle.code_checkers.specs.Signal.Signal.{Not, And, Xor}

-- a carry added to counted bits, the least significant first; where the counter grows the last carry is a new bit
abbrev pub add_carry : Bool → Signal → List Signal → List Signal
add_carry grows carry [] = if grows then carry ∷ [] else []
add_carry grows carry (b ∷ bits) = Xor b carry ∷ add_carry grows (And b carry) bits

-- counting on from the signal number i, from 1; the counter grows where i is a power of 2
abbrev pub count_from : ℕ → List Signal → List Signal → List Signal
count_from i bits [] = bits
count_from i bits (x ∷ signals) = count_from (i + 1) (add_carry (i == 2 ^ length bits) (Not x) bits) signals

-- the number of zeros among signals in binary, the least significant bit first
abbrev pub count_zeros : List Signal → List Signal
count_zeros signals = count_from 1 [] signals
