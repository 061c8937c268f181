-- Bits of the monitored nets that a checker misjudges, and the first value of them.
use Rattle.std.specs.Prelude.{◌≡◌, ℕ, ◌^◌, ◌<◌, ◌==◌, ◌↔◌, Bool, true, false, if◌then◌else◌, List, [], ◌∷◌, ◌++◌, map, length}
use Rattle.std.specs.List.{list_any}
use Rattle.tsc_bits.specs.Bits.{bits_of}
use Rattle.fault_secure.specs.Circuit.{Circuit, bit}
use Rattle.fault_secure.specs.CodePlan.{CodePlan, monitored, word, IsCodeword, RailsAgree}
use Rattle.fault_secure.specs.Structure.{CheckerSettles}

-- the nets with one more, where it isn't among them
abbrev pub with_net : List ℕ → ℕ → List ℕ
with_net nets net = if list_any (λ other. other == net) nets then nets else nets ++ net ∷ []

-- the nets with more of them, each once
abbrev pub with_nets : List ℕ → List ℕ → List ℕ
with_nets nets [] = nets
with_nets nets (net ∷ more) = with_nets (with_net nets net) more

-- the monitored nets, each once, in the order of its first place
abbrev pub distinct_monitored : Circuit → CodePlan → List ℕ
distinct_monitored N P = with_nets [] (monitored N P)

-- so many different nets are monitored
abbrev pub monitored_count : Circuit → CodePlan → ℕ
monitored_count N P = length (distinct_monitored N P)

-- these bits of the distinct monitored nets are misjudged: in some valuation in which the checker settles and the nets have them,
-- the rails don't differ exactly where the word is a codeword
pub record Misjudges (N : Circuit) (P : CodePlan) (bits : List Bool) : Type 0 where
  pub valuation : List Bool
  pub settles : CheckerSettles N P valuation
  pub gives : map (bit valuation) (distinct_monitored N P) ≡ bits
  pub wrong : ((RailsAgree P valuation → ⊥) ↔ IsCodeword P (word N P valuation)) → ⊥

-- the first value of the distinct monitored nets, the first net most significant, that is misjudged
abbrev pub IsFirstMisjudged : Circuit → CodePlan → ℕ → Type 0
IsFirstMisjudged N P value =
    (value < 2 ^ monitored_count N P)
    × Misjudges N P (bits_of (monitored_count N P) value)
    × ((u : ℕ) → u < value → Misjudges N P (bits_of (monitored_count N P) u) → ⊥)

-- these bits were tried: in some valuation in which the checker settles and the nets have them, the rails differ exactly where
-- the word is a codeword
pub record IsJudged (N : Circuit) (P : CodePlan) (bits : List Bool) : Type 0 where
  pub valuation : List Bool
  pub settles : CheckerSettles N P valuation
  pub gives : map (bit valuation) (distinct_monitored N P) ≡ bits
  pub decides : (RailsAgree P valuation → ⊥) ↔ IsCodeword P (word N P valuation)

-- what a try says of some bits
abbrev pub IsTried : Circuit → CodePlan → List Bool → Bool → Type 0
IsTried N P bits true = IsJudged N P bits
IsTried N P bits false = Misjudges N P bits

-- each of the values below this number was judged right
abbrev pub AreJudgedBelow : Circuit → CodePlan → ℕ → Type 0
AreJudgedBelow N P most = (u : ℕ) → u < most → IsJudged N P (bits_of (monitored_count N P) u)

-- the first of the tried values that is misjudged
abbrev pub IsFirstTriedWrong : Circuit → CodePlan → ℕ → Type 0
IsFirstTriedWrong N P value =
    (value < 2 ^ monitored_count N P) × Misjudges N P (bits_of (monitored_count N P) value) × AreJudgedBelow N P value
