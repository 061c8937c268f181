-- What an audit tries without a fault: at each listed state and input the next state is one that the source allows, the word
-- is a codeword, and the outputs are allowed.
use Rattle.std.specs.Prelude.{◌≡◌, ℕ, Bool, List, Some}
use Rattle.fault_secure.specs.Circuit.{Circuit, bit}
use Rattle.fault_secure.specs.StuckAt.{NoFault}
use Rattle.fault_secure.specs.Settle.{Settles}
use Rattle.fault_secure.specs.Run.{init_state}
use Rattle.fault_secure.specs.CodePlan.{CodePlan, word, IsCodeword}
use Rattle.fault_secure.specs.Logic.{Logic, reset_of}
use Rattle.fault_secure.specs.FaultSecure.{state_at, StepFollows}

-- at the reset state the latches hold its word; at each listed state, whatever the input, the step follows the source and
-- its word is a codeword
pub record FollowsSource (M : Logic) (N : Circuit) (P : CodePlan) : Type 0 where
  pub starts : state_at P (init_state N) ≡ Some (reset_of M)
  pub steps : (q : ℕ) (s x v : List Bool) → state_at P s ≡ Some q → Settles N NoFault (bit x) (bit s) v → StepFollows M N P s x v
  pub codewords : (q : ℕ) (s x v : List Bool) → state_at P s ≡ Some q → Settles N NoFault (bit x) (bit s) v → IsCodeword P (word N P v)
