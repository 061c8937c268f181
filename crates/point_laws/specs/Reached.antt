-- The states that runs without a fault come to: at these alone secure is decided, with latches too.
use Rattle.std.specs.Prelude.{◌≡◌, ℕ, Bool, List, [], ◌∷◌, Some}
use Rattle.fault_secure.specs.Circuit.{Circuit, bit}
use Rattle.fault_secure.specs.StuckAt.{NoFault}
use Rattle.fault_secure.specs.Settle.{Settles}
use Rattle.fault_secure.specs.Run.{init_state, next_state, Runs}
use Rattle.fault_secure.specs.CodePlan.{CodePlan, word, IsCodeword, RailsAgree}
use Rattle.fault_secure.specs.Logic.{Logic, reset_of}
use Rattle.fault_secure.specs.FailingCell.{IsCell, SettlesBut}
use Rattle.fault_secure.specs.FaultSecure.{state_at, StepFollows, Shows}

-- the state bits after the steps of a run without a fault
abbrev pub state_after : Circuit → List Bool → List (List Bool) → List Bool
state_after N s [] = s
state_after N s (v ∷ vs) = state_after N (next_state N NoFault v) vs

-- a run without a fault comes to these state bits
pub record IsReached (N : Circuit) (s : List Bool) : Type 0 where
  pub marks : List Bool
  pub inputs : List (List Bool)
  pub run : List (List Bool)
  pub runs : Runs N NoFault marks inputs run
  pub arrives : state_after N (init_state N) run ≡ s

-- it starts at the reset state, and from all state bits that a run comes to its steps follow the source, with codewords
pub record FollowsWhereReached (M : Logic) (N : Circuit) (P : CodePlan) : Type 0 where
  pub starts : state_at P (init_state N) ≡ Some (reset_of M)
  pub steps : (s x v : List Bool) → IsReached N s → Settles N NoFault (bit x) (bit s) v → StepFollows M N P s x v
  pub codewords : (s x v : List Bool) → IsReached N s → Settles N NoFault (bit x) (bit s) v → IsCodeword P (word N P v)

-- there the rails differ without a fault
abbrev pub IsQuietWhereReached : Circuit → CodePlan → Type 0
IsQuietWhereReached N P = (s x v : List Bool) → IsReached N s → Settles N NoFault (bit x) (bit s) v → RailsAgree P v → ⊥

-- there the rails differ without a fault, and the wrong words of a failing cell show
pub record IsSecureWhereReached (N : Circuit) (P : CodePlan) : Type 0 where
  pub quiet : IsQuietWhereReached N P
  pub shown : (cell : ℕ) (s x v u : List Bool) → IsCell N cell → IsReached N s → Settles N NoFault (bit x) (bit s) v → SettlesBut N cell (bit x) (bit s) u
      → (word N P u ≡ word N P v → ⊥) → Shows N P u
