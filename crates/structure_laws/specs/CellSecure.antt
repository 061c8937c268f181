-- From the structure of a netlist and its behaviour without a fault to secure against any one failing cell, and from there to
-- fault-secure: the statements of the laws.
use Rattle.std.specs.Prelude.{ℕ}
use Rattle.fault_secure.specs.Circuit.{Circuit}
use Rattle.fault_secure.specs.Settle.{Acyclic}
use Rattle.fault_secure.specs.CodePlan.{CodePlan}
use Rattle.fault_secure.specs.Structure.{IsCodeDisjoint}
use Rattle.fault_secure.specs.SoundStructure.{HasSoundStructure}
use Rattle.fault_secure.specs.Logic.{Logic}
use Rattle.fault_secure.specs.Behaviour.{FollowsSource}
use Rattle.fault_secure.specs.FaultSecure.{IsFaultSecure}
use Rattle.fault_secure.specs.FailingCell.{IsCell}
use Rattle.fault_secure.specs.CellSecure.{IsCellSecure}
use Rattle.structure_laws.specs.FirstError.{NoWrongCodeword}

-- a netlist of sound structure that follows its source without a fault is secure against any one failing cell
abbrev pub SoundIsCellSecure : Type 0
SoundIsCellSecure = (M : Logic) (N : Circuit) (P : CodePlan) → HasSoundStructure N P → FollowsSource M N P → IsCellSecure M N P

-- more than structure: it is enough that no failing cell makes a wrong codeword, and that the checker is code-disjoint
abbrev pub SafeIsCellSecure : Type 0
SafeIsCellSecure = (M : Logic) (N : Circuit) (P : CodePlan) → Acyclic N → IsCodeDisjoint N P
    → ((cell : ℕ) → IsCell N cell → NoWrongCodeword N P cell) → FollowsSource M N P → IsCellSecure M N P

-- what is secure against any one failing cell is fault-secure
abbrev pub CellSecureIsFaultSecure : Type 0
CellSecureIsFaultSecure = (M : Logic) (N : Circuit) (P : CodePlan) → Acyclic N → IsCellSecure M N P → IsFaultSecure M N P
