-- The line of a step, and the lines of a run.
use Rattle.std.specs.Prelude.{ℕ, zero, suc, ◌+◌, Bool, true, false, if◌then◌else◌, List, [], ◌∷◌, ◌++◌, codes, map, take}
use Rattle.std.specs.Fmt.{decimal}
use Rattle.tsc_bits.specs.Bits.{same}
use Rattle.fault_secure.specs.Circuit.{Circuit, bit}
use Rattle.fault_secure.specs.CodePlan.{CodePlan, next_nets}

-- the bits of the outputs, of the checks, of the nets at the latch inputs, and of the two rails
pub record StepBits : Type 0 where
  pub outputs : List Bool
  pub checks : List Bool
  pub next : List Bool
  pub rail1 : Bool
  pub rail2 : Bool

-- the character of a bit
abbrev pub digit : Bool → ℕ
digit false = 48
digit true = 49

-- a list of bits as a word: `.` where there is none
abbrev pub bits_word : List Bool → List ℕ
bits_word [] = codes "."
bits_word (b ∷ bits) = map digit (b ∷ bits)

-- how many characters a word of so many bits has
abbrev pub word_width : ℕ → ℕ
word_width zero = 1
word_width (suc n) = suc n

-- `quiet` where the rails differ, else `alarm`
abbrev pub verdict : Bool → Bool → List ℕ
verdict rail1 rail2 = if same rail1 rail2 then codes "alarm" else codes "quiet"

-- the end of a line: the rails and the verdict, each after a blank, and an LF
abbrev pub rails_end : Bool → Bool → List ℕ
rails_end rail1 rail2 = 32 ∷ digit rail1 ∷ digit rail2 ∷ 32 ∷ (verdict rail1 rail2 ++ 10 ∷ [])

-- `STEP OUTPUTS CHECKS NEXT RAILS WORD`
abbrev pub line_of : ℕ → StepBits → List ℕ
line_of step bits =
    decimal step
    ++ ((32 ∷ bits_word bits.outputs) ++ ((32 ∷ bits_word bits.checks) ++ ((32 ∷ bits_word bits.next) ++ rails_end bits.rail1 bits.rail2)))

-- the bits that a valuation shows
abbrev pub step_bits : Circuit → CodePlan → List Bool → StepBits
step_bits N P v = record {
  outputs = map (bit v) (take P.outputs N.outputs);
  checks = map (bit v) P.checks;
  next = map (bit v) (next_nets N);
  rail1 = bit v P.rail1;
  rail2 = bit v P.rail2;
}

-- the line of a step with this valuation
abbrev pub step_line : Circuit → CodePlan → ℕ → List Bool → List ℕ
step_line N P step v = line_of step (step_bits N P v)

-- one line per valuation, the first step having the number `step`
abbrev pub run_lines : Circuit → CodePlan → ℕ → List (List Bool) → List ℕ
run_lines N P step [] = []
run_lines N P step (v ∷ vs) = step_line N P step v ++ run_lines N P (step + 1) vs
