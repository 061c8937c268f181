-- The values of a cover's pins, tried 64 at once on words of bits that are used again.
use Rattle.std.specs.Prelude.{◌≡◌, ℕ, ◌<◌, ◌^◌, Bool, false, List, [], ◌∷◌, length, map, replicate, slice_set}
use Rattle.tsc_bits.specs.Bits.{bits_of}
use Rattle.fault_secure.specs.Circuit.{Circuit, node, node_net, nets, bit}
use Rattle.code_lanes.specs.Lanes.{column}
use Rattle.mapping_reading.specs.ReadMapping.{block_pins, evaluated, with_bits, cover_bit}

-- the words of a circuit's nets have a 0 a net, at each of their 64 points
abbrev pub AreZeros : Circuit → List ℕ → Type 0
AreZeros G words = (p : ℕ) → p < 64 → column p words ≡ replicate (nets G) false

-- where the nets at the pins of node j's cover went, pin by pin
abbrev pub moved_pins : Circuit → (ℕ → ℕ) → ℕ → List ℕ
moved_pins N at j = map at (node N j).reads

-- the row with a 0 at these nets
abbrev pub cleared : List ℕ → List Bool → List Bool
cleared [] row = row
cleared (net ∷ nets) row = cleared nets (slice_set row net false)

-- what these gates give at a net for a value of the pins, all other nets being 0
abbrev pub given_bit : Circuit → List ℕ → List ℕ → ℕ → ℕ → Bool
given_bit G gates pins value net = bit (evaluated G gates (with_bits pins (bits_of (length pins) value) (replicate (nets G) false))) net

-- on this value of the pins of node j's cover the gates give the cover's bit
abbrev pub IsGiven : Circuit → Circuit → (ℕ → ℕ) → List ℕ → ℕ → ℕ → Type 0
IsGiven N G at gates j value = given_bit G gates (block_pins N at j) value (at (node_net N j)) ≡ cover_bit N G at j value

-- on each value they do
abbrev pub AreGiven : Circuit → Circuit → (ℕ → ℕ) → List ℕ → ℕ → Type 0
AreGiven N G at gates j = (value : ℕ) → value < 2 ^ length (block_pins N at j) → IsGiven N G at gates j value

-- the first value on which they don't
pub record IsFirstMissed (N G : Circuit) (at : ℕ → ℕ) (gates : List ℕ) (j value : ℕ) : Type 0 where
  pub inside : value < 2 ^ length (block_pins N at j)
  pub missed : IsGiven N G at gates j value → ⊥
  pub first : (earlier : ℕ) → earlier < value → IsGiven N G at gates j earlier
