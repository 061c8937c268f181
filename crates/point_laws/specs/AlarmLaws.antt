-- From heard at points to alarm-secure, and back: the statements of the laws.
use Rattle.std.specs.Prelude.{◌≡◌, ◌↔◌, ℕ, Bool, not, List, length, Some, IsTrue}
use Rattle.fault_secure.specs.Circuit.{Circuit, bit}
use Rattle.fault_secure.specs.StuckAt.{StuckAt, NoFault, is_listed}
use Rattle.fault_secure.specs.Settle.{Acyclic}
use Rattle.fault_secure.specs.Run.{Runs}
use Rattle.fault_secure.specs.CodePlan.{CodePlan, IsPlanOf}
use Rattle.fault_secure.specs.Logic.{Logic, Network, States, Loose, StateTable}
use Rattle.fault_secure.specs.Behaviour.{FollowsSource}
use Rattle.fault_secure.specs.FaultSecure.{state_at, NoSilentError}
use Rattle.fault_secure.specs.FailingCell.{IsCell}
use Rattle.fault_secure.specs.CellSecure.{IsCellSecure}
use Rattle.fault_secure.specs.Exposing.{word_of_state}
use Rattle.point_laws.specs.Points.{IsStepAt, IsSecureAtPoints}
use Rattle.point_laws.specs.Reached.{IsReached, FollowsWhereReached}
use Rattle.point_laws.specs.Heard.{IsUnheardAt, IsUnheardUnder, IsHeardAtPoints, IsHeardWhereReached, IsWrongUnheardAt, IsAlarmSecure, AllowsOneOutput}

-- what follows its source and is heard at its points is alarm-secure, whatever its structure
abbrev pub HeardAtPointsIsAlarmSecure : Type 0
HeardAtPointsIsAlarmSecure = (M : Logic) (N : Circuit) (P : CodePlan) → IsPlanOf N P → Acyclic N → FollowsSource M N P → IsHeardAtPoints N P
    → IsAlarmSecure M N P

-- it is enough at the states that runs come to
abbrev pub HeardWhereReachedIsAlarmSecure : Type 0
HeardWhereReachedIsAlarmSecure = (M : Logic) (N : Circuit) (P : CodePlan) → Acyclic N → FollowsWhereReached M N P → IsHeardWhereReached N P
    → IsAlarmSecure M N P

-- secure at its points is heard at its points
abbrev pub SecureAtPointsIsHeard : Type 0
SecureAtPointsIsHeard = (N : Circuit) (P : CodePlan) → IsSecureAtPoints N P → IsHeardAtPoints N P

-- secure against any one failing cell is alarm-secure
abbrev pub CellSecureIsAlarmSecure : Type 0
CellSecureIsAlarmSecure = (M : Logic) (N : Circuit) (P : CodePlan) → IsCellSecure M N P → IsAlarmSecure M N P

-- with one listed fault, present at any steps, no wrong output of what is alarm-secure comes before its alarm
abbrev pub AlarmSecureForFaults : Type 0
AlarmSecureForFaults = (M : Logic) (N : Circuit) (P : CodePlan) (f : StuckAt) (w : List Bool) (xs vs us : List (List Bool)) → IsAlarmSecure M N P
    → IsTrue (is_listed N f) → Runs N NoFault w xs vs → Runs N f w xs us → NoSilentError M N P xs vs us

-- without latches, where the source allows one list of outputs, alarm-secure is following and heard at its points, and the other way
abbrev pub NetworksAreDecidedByAlarms : Type 0
NetworksAreDecidedByAlarms = (M : Logic) (N : Circuit) (P : CodePlan) → AllowsOneOutput M P.version → IsPlanOf N P → Acyclic N → length N.latches ≡ 0
    → IsAlarmSecure M N P ↔ (FollowsSource M N P × IsHeardAtPoints N P)

-- a network without a ring allows one list of outputs; so does a table, and a loose source without a ring, under another version than 2
pub record SourcesAllowOneOutput : Type 0 where
  pub network : (C : Circuit) (version : ℕ) → Acyclic C → AllowsOneOutput (Network C) version
  pub table : (T : StateTable) (version : ℕ) → (version ≡ 2 → ⊥) → AllowsOneOutput (States T) version
  pub loose : (V F : Circuit) (version : ℕ) → Acyclic V → (version ≡ 2 → ⊥) → AllowsOneOutput (Loose V F) version

-- where a run comes to the word of a listed state at which a cell fails unheard, the netlist isn't one that is secure against any one failing cell
abbrev pub UnheardIsInsecure : Type 0
UnheardIsInsecure = (M : Logic) (N : Circuit) (P : CodePlan) (cell q : ℕ) (x s : List Bool) → IsCell N cell → word_of_state P q ≡ Some s → IsReached N s
    → IsUnheardAt N P cell q x → IsCellSecure M N P → ⊥

-- where outputs that the source doesn't allow are unheard there, and the state is the one that the plan finds, it isn't alarm-secure
abbrev pub WrongUnheardIsInsecure : Type 0
WrongUnheardIsInsecure = (M : Logic) (N : Circuit) (P : CodePlan) (cell q : ℕ) (x s : List Bool) → IsCell N cell
    → word_of_state P q ≡ Some s → state_at P s ≡ Some q → IsReached N s → IsWrongUnheardAt M N P cell q x → IsAlarmSecure M N P → ⊥

-- a cell fails unheard at a point exactly where its stem, held at one of the two bits, is unheard there
abbrev pub UnheardStemsDecide : Type 0
UnheardStemsDecide = (N : Circuit) (P : CodePlan) (cell q : ℕ) (x : List Bool) → IsCell N cell
    → IsUnheardAt N P cell q x ↔ ((held : Bool) × IsUnheardUnder N P cell held q x)

-- and that bit is the one that the cell's net hasn't there without a fault
abbrev pub UnheardStemIsWrong : Type 0
UnheardStemIsWrong = (N : Circuit) (P : CodePlan) (cell q : ℕ) (held : Bool) (x right : List Bool) → Acyclic N → IsCell N cell
    → IsUnheardUnder N P cell held q x → IsStepAt N P q x right → bit right cell ≡ not held
