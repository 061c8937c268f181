-- Lanes: bits, one for each point, in words of 64.
use Rattle.std.specs.Prelude.{◌≡◌, ℕ, ◌*◌, ◌/◌, ◌%◌, ◌<◌, Bool, List, length, slice_index}
use Rattle.tsc_bits.specs.Bits.{bit_worth}

-- the bit of a point: point p is bit p mod 64 of word p / 64
abbrev pub lane_bit : List ℕ → ℕ → Bool
lane_bit words p = bit_worth (p % 64) (slice_index words (p / 64))

-- so many words that have these bits at their points
pub record HasLanes (count : ℕ) (words : List ℕ) (bits : ℕ → Bool) : Type 0 where
  pub sized : length words ≡ count
  pub lanes : (p : ℕ) → p < count * 64 → lane_bit words p ≡ bits p

-- the word has these bits
abbrev pub HasBits : ℕ → (ℕ → Bool) → Type 0
HasBits word bits = (k : ℕ) → k < 64 → bit_worth k word ≡ bits k
