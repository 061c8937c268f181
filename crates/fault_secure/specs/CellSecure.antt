-- Secure against any one failing cell, which gives its net any bits at any steps.
use Rattle.std.specs.Prelude.{◌≡◌, ℕ, Bool, List, length, All}
use Rattle.fault_secure.specs.Circuit.{Circuit}
use Rattle.fault_secure.specs.StuckAt.{NoFault}
use Rattle.fault_secure.specs.Run.{Runs, HasOneRun}
use Rattle.fault_secure.specs.CodePlan.{CodePlan}
use Rattle.fault_secure.specs.Logic.{Logic}
use Rattle.fault_secure.specs.FailingCell.{IsCell, RunsBut, HasOneRunBut}
use Rattle.fault_secure.specs.FaultSecure.{Follows, IsQuiet, IsFlagged}

-- over every list of inputs there is exactly one run without a fault, and one for whatever bits a failing cell gives. Without a fault
-- it follows the source quietly; and with one failing cell no wrong output comes before its alarm
pub record IsCellSecure (M : Logic) (N : Circuit) (P : CodePlan) : Type 0 where
  pub one_run : (w : List Bool) (xs : List (List Bool)) → length w ≡ length xs → HasOneRun N NoFault w xs
  pub one_run_but : (cell : ℕ) (bits : List Bool) (xs : List (List Bool)) → IsCell N cell → length bits ≡ length xs → HasOneRunBut N cell bits xs
  pub follows : (w : List Bool) (xs vs : List (List Bool)) → Runs N NoFault w xs vs → Follows M N P xs vs
  pub quiet : (w : List Bool) (xs vs : List (List Bool)) → Runs N NoFault w xs vs → All (IsQuiet N P) vs
  pub flagged : (cell : ℕ) (w : List Bool) (xs vs us : List (List Bool)) → IsCell N cell
      → Runs N NoFault w xs vs → RunsBut N cell xs us → IsFlagged M N P xs vs us
