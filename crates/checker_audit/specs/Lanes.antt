-- 64 values at once, each a point of the words of nets: what these show, and what the tries say.
use Rattle.std.specs.Prelude.{◌≡◌, ℕ, ◌+◌, ◌<◌, true, false, List, map}
use Rattle.tsc_bits.specs.Bits.{bit_worth, bits_of}
use Rattle.fault_secure.specs.Circuit.{Circuit, bit}
use Rattle.fault_secure.specs.CodePlan.{CodePlan}
use Rattle.fault_secure.specs.Structure.{CheckerSettles}
use Rattle.checker_audit.specs.Misjudged.{distinct_monitored, monitored_count, IsJudged, Misjudges}
use Rattle.code_lanes.specs.Lanes.{column}

-- at each point the checker settles, and the distinct monitored nets have the bits of the next value from `base` on
pub record ShowsValues (N : Circuit) (P : CodePlan) (base : ℕ) (words : List ℕ) : Type 0 where
  pub settles : (p : ℕ) → p < 64 → CheckerSettles N P (column p words)
  pub gives : (p : ℕ) → p < 64 → map (bit (column p words)) (distinct_monitored N P) ≡ bits_of (monitored_count N P) (base + p)

-- each of so many values from `base` on was judged right
abbrev pub AreJudgedWithin : Circuit → CodePlan → ℕ → ℕ → Type 0
AreJudgedWithin N P base count = (p : ℕ) → p < count → IsJudged N P (bits_of (monitored_count N P) (base + p))

-- the first of them that is misjudged
pub record IsFirstWithin (N : Circuit) (P : CodePlan) (base count value : ℕ) : Type 0 where
  pub at : ℕ
  pub is : value ≡ base + at
  pub within : at < count
  pub wrong : Misjudges N P (bits_of (monitored_count N P) value)
  pub before : (p : ℕ) → p < at → IsJudged N P (bits_of (monitored_count N P) (base + p))

-- the first of so many points at which a word has a 1
pub record IsFirstMarked (word count at : ℕ) : Type 0 where
  pub within : at < count
  pub marked : bit_worth at word ≡ true
  pub before : (p : ℕ) → p < at → bit_worth p word ≡ false
