-- 1,024 points of a circuit, each an input and a state. The words have the lanes of the inputs and then those of the latch
-- outputs, sixteen words each.
use Rattle.std.specs.Prelude.{◌≡◌, ◌≢◌, ℕ, ◌+◌, ◌*◌, ◌/◌, ◌%◌, ◌<◌, nat_lt, Bool, false, if◌then◌else◌, List, length, slice_index}
use Rattle.tsc_bits.specs.Bits.{bit_worth}
use Rattle.fault_secure.specs.Circuit.{Circuit}

pub record PointsState : Type 0 where
  pub inputs : ℕ
  pub latches : ℕ
  pub words : List ℕ

-- the bit at a point of an input or a latch output, by its net
abbrev pub source_bit : List ℕ → ℕ → ℕ → Bool
source_bit words net p = bit_worth (p % 64) (slice_index words (net * 16 + p / 64))

-- the bits of the inputs at a point
abbrev pub point_input : PointsState → ℕ → ℕ → Bool
point_input points p i = if nat_lt i points.inputs then source_bit points.words i p else false

-- the bits of the state at a point
abbrev pub point_state : PointsState → ℕ → ℕ → Bool
point_state points p l = if nat_lt l points.latches then source_bit points.words (points.inputs + l) p else false

-- points with as many input bits and state bits as the circuit has inputs and latches
pub record ArePointsOf (N : Circuit) (points : PointsState) : Type 0 where
  pub inputs : points.inputs ≡ N.inputs
  pub latches : points.latches ≡ length N.latches

-- the other points keep their bits
abbrev pub KeepsOthers : ℕ → PointsState → PointsState → Type 0
KeepsOthers place old new =
    (p k : ℕ) → p < 1024 → p ≢ place → (point_input new p k ≡ point_input old p k) × (point_state new p k ≡ point_state old p k)

-- the points outside the block, which has 64 of them, keep their bits
abbrev pub KeepsOtherBlocks : ℕ → PointsState → PointsState → Type 0
KeepsOtherBlocks block old new =
    (p k : ℕ) → p < 1024 → p / 64 ≢ block → (point_input new p k ≡ point_input old p k) × (point_state new p k ≡ point_state old p k)
