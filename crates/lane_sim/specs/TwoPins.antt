-- Gates of at most two pins.
use Rattle.std.specs.Prelude.{◌≡◌, ℕ, ◌/◌, ◌%◌, ◌<◌, nat_lt, if◌then◌else◌, Bool, not, ◌&&◌, List, [], ◌∷◌, length, take, slice_index}
use Rattle.tsc_bits.specs.Bits.{same, bit_worth}
use Rattle.tsc_cover.specs.Cover.{CoverTable, truth}
use Rattle.lane_sim.specs.Lanes.{HasLanes}

-- one of the bits and not the other
abbrev pub differ : Bool → Bool → Bool
differ a b = not (same a b)

-- the sum modulo 2 of a constant, two bits and their product, as far as it has them
abbrev pub sum_bit : Bool → Bool → Bool → Bool → Bool → Bool → Bool
sum_bit constant first second both a b = differ (differ constant (a && first)) (b && differ second (a && both))

-- the function that a number below 16 stands for: it has 1 for the constant, 2 for the first bit, 4 for the second, 8 for their product
abbrev pub table_bit : ℕ → Bool → Bool → Bool
table_bit table a b = sum_bit (bit_worth 0 table) (bit_worth 1 table) (bit_worth 2 table) (bit_worth 3 table) a b

-- the number is that of the function of a cover with so many pins
pub record IsTableOf (cover : CoverTable) (pins : ℕ) (table : ℕ) : Type 0 where
  pub small : table < 16
  pub gives : (a b : Bool) → table_bit table a b ≡ truth cover (take pins (a ∷ b ∷ []))

-- the masks of a number: those of its four bits, and what a product of the two bits is added to, where it has their product. Each
-- of these is negated in it where the sum has the other one too
abbrev pub mask_bit : ℕ → ℕ → Bool
mask_bit bit table = if nat_lt bit 4 then bit_worth bit table else differ (bit_worth 0 table) (bit_worth 1 table && bit_worth 2 table)

-- for each number below 16 and each of its five masks two words, all of whose bits are that bit
pub record AreMasks (masks : List ℕ) : Type 0 where
  pub sized : length masks ≡ 160
  pub bits : (place j : ℕ) → place < 160 → j < 64 → bit_worth j (slice_index masks place) ≡ mask_bit (place % 10 / 2) (place / 10)

-- lanes that have at each point the five masks of a number
pub record HaveMasks (count table : ℕ) (zeroth one two three last : List ℕ) : Type 0 where
  pub constant : HasLanes count zeroth (λ p. mask_bit 0 table)
  pub first : HasLanes count one (λ p. mask_bit 1 table)
  pub second : HasLanes count two (λ p. mask_bit 2 table)
  pub both : HasLanes count three (λ p. mask_bit 3 table)
  pub negated : HasLanes count last (λ p. mask_bit 4 table)

-- the number is that of a function which a formula serves: 0 for a sum without the product, 1 for the exclusive or and its negation,
-- 2 for a product, and any other for every function
pub record HasFormula (formula table : ℕ) : Type 0 where
  pub sum : formula ≡ 0 → table < 8
  pub difference : formula ≡ 1 → (5 < table) × (table < 8)
  pub product : formula ≡ 2 → (7 < table) × (table < 16)
