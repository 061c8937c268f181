-- From points to secure, and back: the statements of the laws.
use Rattle.std.specs.Prelude.{◌≡◌, ◌↔◌, ℕ, Bool, List, length, Some}
use Rattle.fault_secure.specs.Circuit.{Circuit}
use Rattle.fault_secure.specs.Settle.{Acyclic}
use Rattle.fault_secure.specs.CodePlan.{CodePlan, IsPlanOf}
use Rattle.fault_secure.specs.SoundStructure.{HasSoundStructure}
use Rattle.fault_secure.specs.Logic.{Logic}
use Rattle.fault_secure.specs.Behaviour.{FollowsSource}
use Rattle.fault_secure.specs.FailingCell.{IsCell}
use Rattle.fault_secure.specs.CellSecure.{IsCellSecure}
use Rattle.fault_secure.specs.FaultSecure.{IsFaultSecure}
use Rattle.fault_secure.specs.Exposing.{word_of_state}
use Rattle.point_laws.specs.Points.{IsSilentAt, IsSilentUnder, IsSecureAtPoints}
use Rattle.point_laws.specs.Reached.{IsReached, FollowsWhereReached, IsSecureWhereReached}

-- what follows its source and is secure at its points is secure against any one failing cell, whatever its structure
abbrev pub SecureAtPointsIsCellSecure : Type 0
SecureAtPointsIsCellSecure = (M : Logic) (N : Circuit) (P : CodePlan) → IsPlanOf N P → Acyclic N → FollowsSource M N P → IsSecureAtPoints N P
    → IsCellSecure M N P

-- without latches that is an equivalence
abbrev pub NetworksAreDecided : Type 0
NetworksAreDecided = (M : Logic) (N : Circuit) (P : CodePlan) → IsPlanOf N P → Acyclic N → length N.latches ≡ 0
    → IsCellSecure M N P ↔ (FollowsSource M N P × IsSecureAtPoints N P)

-- with latches it is one at the states that runs come to
abbrev pub DecidedWhereReached : Type 0
DecidedWhereReached = (M : Logic) (N : Circuit) (P : CodePlan) → Acyclic N
    → IsCellSecure M N P ↔ (FollowsWhereReached M N P × IsSecureWhereReached N P)

-- where a run comes to the word of a listed state at which a cell fails silently, the netlist isn't one that is secure against any one failing cell
abbrev pub SilentIsInsecure : Type 0
SilentIsInsecure = (M : Logic) (N : Circuit) (P : CodePlan) (cell q : ℕ) (x s : List Bool) → IsCell N cell → word_of_state P q ≡ Some s → IsReached N s
    → IsSilentAt N P cell q x → IsCellSecure M N P → ⊥

-- secure against each listed fault, present at any steps, is secure against any one failing cell, and the other way
abbrev pub FaultsDecideCells : Type 0
FaultsDecideCells = (M : Logic) (N : Circuit) (P : CodePlan) → Acyclic N → IsFaultSecure M N P ↔ IsCellSecure M N P

-- a cell fails silently at a point exactly where its stem, held at one of the two bits, is silent there
abbrev pub StemsDecide : Type 0
StemsDecide = (N : Circuit) (P : CodePlan) (cell q : ℕ) (x : List Bool) → IsCell N cell
    → IsSilentAt N P cell q x ↔ ((held : Bool) × IsSilentUnder N P cell held q x)

-- what has sound structure and follows its source is secure at its points
abbrev pub SoundIsSecureAtPoints : Type 0
SoundIsSecureAtPoints = (M : Logic) (N : Circuit) (P : CodePlan) → HasSoundStructure N P → FollowsSource M N P → IsSecureAtPoints N P
