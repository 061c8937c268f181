-- The first error shows: the first word that a failing cell makes wrong is no codeword, and the rails agree at that step.
use Rattle.std.specs.Prelude.{◌≡◌, ℕ, Bool, List, All}
use Rattle.fault_secure.specs.declared.code.Code.TheVariants.{Parity}
use Rattle.fault_secure.specs.Circuit.{Circuit}
use Rattle.fault_secure.specs.StuckAt.{NoFault}
use Rattle.fault_secure.specs.Settle.{Settles, Acyclic}
use Rattle.fault_secure.specs.Run.{Runs}
use Rattle.fault_secure.specs.CodePlan.{CodePlan, word, IsCodeword, IsWellMade, IsPlanOf, IsUnorderedCode}
use Rattle.fault_secure.specs.Structure.{IsUnate, HasDisjointCones, IsCodeDisjoint}
use Rattle.fault_secure.specs.FailingCell.{IsCell, SettlesBut, RunsBut}
use Rattle.fault_secure.specs.FaultSecure.{FirstErrorShows}

-- no word that the failing cell makes wrong is a codeword, where the state bits are right
abbrev pub NoWrongCodeword : Circuit → CodePlan → ℕ → Type 0
NoWrongCodeword N P cell = (x s : ℕ → Bool) (v u : List Bool) → Settles N NoFault x s v → SettlesBut N cell x s u
    → IsCodeword P (word N P v) → IsCodeword P (word N P u) → word N P u ≡ word N P v

-- with a code-disjoint checker, a failing cell that makes no wrong codeword shows at the first wrong word; every word without a
-- fault is to be a codeword
abbrev pub WrongWordsShow : Type 0
WrongWordsShow = (N : Circuit) (P : CodePlan) (cell : ℕ) (w : List Bool) (xs vs us : List (List Bool))
    → Acyclic N → IsCodeDisjoint N P → NoWrongCodeword N P cell
    → Runs N NoFault w xs vs → RunsBut N cell xs us → All (λ v. IsCodeword P (word N P v)) vs → FirstErrorShows N P vs us

-- in a unate function under an unordered code no failing cell makes a wrong codeword
abbrev pub UnateIsSafe : Type 0
UnateIsSafe = (N : Circuit) (P : CodePlan) (cell : ℕ) → Acyclic N → IsUnate N P → IsUnorderedCode P.code → NoWrongCodeword N P cell

-- under code Parity, with disjoint cones in each group, no failing cell makes a wrong codeword
abbrev pub ParityIsSafe : Type 0
ParityIsSafe = (N : Circuit) (P : CodePlan) (cell : ℕ)
    → P.code ≡ Parity → IsWellMade P → IsPlanOf N P → Acyclic N → HasDisjointCones N P → IsCell N cell → NoWrongCodeword N P cell
