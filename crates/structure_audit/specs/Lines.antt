-- Which lines of the word depend on each node: one mask per node, whose bit worth 2 ^ k stands for the line at place k.
use Rattle.std.specs.Prelude.{◌≡◌, ℕ, ◌+◌, ◌-◌, ◌^◌, ◌<◌, nat_lt, bit_or, Bool, if◌then◌else◌, List, [], ◌∷◌, map, length, slice_index, slice_set, IsTrue, Option, Some, None}
use Rattle.tsc_bits.specs.Bits.{bit_worth}
use Rattle.fault_secure.specs.Circuit.{Circuit}
use Rattle.net_cones.specs.Cones.{MarksCone}
use Rattle.structure_audit.specs.StructureReason.{PairComesBefore}
use Rattle.structure_audit.specs.declared.pairs.Pair.{Pair}

-- a mark for each node: whether the line at place k depends on it
abbrev pub line_marks : ℕ → List ℕ → List Bool
line_marks k masks = map (bit_worth k) masks

-- the masks say which lines depend on each node
pub record AreLineMasks (N : Circuit) (word masks : List ℕ) : Type 0 where
  pub sized : length masks ≡ length N.nodes
  pub lines : (k : ℕ) → k < length word → MarksCone N (slice_index word k ∷ []) (line_marks k masks)

-- the masks with these lines more at the driver of a net; the node at place 0 drives the net `first`
abbrev pub with_lines : ℕ → ℕ → ℕ → List ℕ → List ℕ
with_lines first lines net masks = if nat_lt net first then masks else slice_set masks (net - first) (bit_or (slice_index masks (net - first)) lines)

-- the masks with these lines more at the drivers of some nets
abbrev pub with_all_lines : ℕ → ℕ → List ℕ → List ℕ → List ℕ
with_all_lines first lines [] masks = masks
with_all_lines first lines (net ∷ nets) masks = with_all_lines first lines nets (with_lines first lines net masks)

-- the masks with each line at its driver, the first net being the line at `place`
abbrev pub with_roots : ℕ → ℕ → List ℕ → List ℕ → List ℕ
with_roots first place [] masks = masks
with_roots first place (net ∷ word) masks = with_roots first (place + 1) word (with_lines first (2 ^ place) net masks)

-- a node before place `end` on which the lines at two places depend
pub record MeetBefore (masks : List ℕ) (end a b : ℕ) : Type 0 where
  pub node : ℕ
  pub within : node < end
  pub of_first : IsTrue (bit_worth a (slice_index masks node))
  pub of_second : IsTrue (bit_worth b (slice_index masks node))

-- a node on which the lines at two places depend
abbrev pub HaveCommonBit : List ℕ → ℕ → ℕ → Type 0
HaveCommonBit masks a b = MeetBefore masks (length masks) a b

-- the first place of a list, before the one at `second`, whose line shares a node with that one's
abbrev pub IsPartner : List ℕ → List ℕ → ℕ → Option ℕ → Type 0
IsPartner masks places second None = (a : ℕ) → a < second → HaveCommonBit masks (slice_index places a) (slice_index places second) → ⊥
IsPartner masks places second (Some first) =
    (first < second) × HaveCommonBit masks (slice_index places first) (slice_index places second)
    × ((a : ℕ) → a < first → HaveCommonBit masks (slice_index places a) (slice_index places second) → ⊥)

-- the lines at two places of a list, the first before the second, share a node
pub record SharesBit (masks places : List ℕ) (a b : ℕ) : Type 0 where
  pub ordered : a < b
  pub within : b < length places
  pub common : HaveCommonBit masks (slice_index places a) (slice_index places b)

-- the first pair of places of a list whose lines share a node, if there is one
abbrev pub IsFirstPair : List ℕ → List ℕ → Option Pair → Type 0
IsFirstPair masks places None = (a b : ℕ) → SharesBit masks places a b → ⊥
IsFirstPair masks places (Some pair) =
    SharesBit masks places pair.first pair.second × ((a b : ℕ) → PairComesBefore a b pair.first pair.second → SharesBit masks places a b → ⊥)
