-- The checks that a synthesis under an unordered code writes: how many there are, and that they make a word a checked one.
use Rattle.std.proofs.Common.{◌≡◌, ℕ, Bool, List, [], ◌++◌, length, sym, ◌∙◌, subst}
use Rattle.tsc_bits.specs.Counting.{zeros}
use Rattle.tsc_bits.specs.Thermometer.{thermo}
use Rattle.tsc_bits.proofs.Bits.{length-bits_of}
use Rattle.tsc_bits.proofs.Thermometers.{thermo_length}
use Rattle.fault_secure.specs.declared.code.Code.{Code}
use Rattle.fault_secure.specs.declared.code.Code.TheVariants.{Parity, Berger, MOutOfN}
use Rattle.mofn_code.specs.CheckBits.{check_bits}
use Rattle.fault_secure.specs.CodePlan.{CodePlan, IsChecked, IsUnorderedCode, HasShape, HasWidth}
use Rattle.berger_code.proofs.Codeword as berger
use Rattle.mofn_code.proofs.Codeword as mofn

-- as many checks as there are to be
pub checks_sized : (code : Code) (checks : ℕ) (ys : List Bool) → IsUnorderedCode code → length (check_bits code checks ys) ≡ checks
checks_sized Parity checks ys unordered = absurd unordered
checks_sized Berger checks ys unordered = length-bits_of checks (zeros ys)
checks_sized MOutOfN checks ys unordered = thermo_length checks (zeros ys)

-- outputs, their checks and any next word are a checked word
pub stated_checked : (code : Code) (P : CodePlan) (ys next : List Bool) → IsUnorderedCode code → length ys ≡ P.outputs → HasWidth code P.outputs (length P.checks)
    → IsChecked code P ((ys ++ check_bits code (length P.checks) ys) ++ next)
stated_checked Parity P ys next unordered sized width = absurd unordered
stated_checked Berger P ys next unordered sized width = berger.word_checked P ys next sized width
stated_checked MOutOfN P ys next unordered sized width =
    subst (λ n. IsChecked MOutOfN P ((ys ++ thermo n (zeros ys)) ++ next)) (sized ∙ sym width) (mofn.word_checked P ys next sized width)

-- a plan's shape under an unordered code: as many checks as the code has, and no groups
pub width_of : (code : Code) (P : CodePlan) → IsUnorderedCode code → HasShape code P → (HasWidth code P.outputs (length P.checks)) × (P.groups ≡ [])
width_of Parity P is shape = absurd is
width_of Berger P is shape = (shape.1, shape.0)
width_of MOutOfN P is shape = (shape.1, shape.0)
