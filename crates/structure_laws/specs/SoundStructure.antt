-- From the structure of a netlist and its behaviour without a fault to fault-secure: the statements of the laws.
use Rattle.std.specs.Prelude.{ℕ, Bool, List, All}
use Rattle.fault_secure.specs.Circuit.{Circuit}
use Rattle.fault_secure.specs.StuckAt.{NoFault}
use Rattle.fault_secure.specs.Run.{Runs}
use Rattle.fault_secure.specs.CodePlan.{CodePlan, word, IsCodeword}
use Rattle.fault_secure.specs.SoundStructure.{HasSoundStructure}
use Rattle.fault_secure.specs.Logic.{Logic}
use Rattle.fault_secure.specs.Behaviour.{FollowsSource}
use Rattle.fault_secure.specs.FaultSecure.{FirstErrorShows, IsFaultSecure}
use Rattle.fault_secure.specs.FailingCell.{IsCell, RunsBut}

-- of the structure alone, with no source: where every word without a fault is a codeword, the first word that a failing cell makes
-- wrong is no codeword, and the rails agree at that step
abbrev pub SoundShowsErrors : Type 0
SoundShowsErrors = (N : Circuit) (P : CodePlan) (cell : ℕ) (w : List Bool) (xs vs us : List (List Bool))
    → HasSoundStructure N P → IsCell N cell → Runs N NoFault w xs vs → RunsBut N cell xs us
    → All (λ v. IsCodeword P (word N P v)) vs → FirstErrorShows N P vs us

-- a netlist of sound structure that follows its source without a fault is fault-secure
abbrev pub SoundIsFaultSecure : Type 0
SoundIsFaultSecure = (M : Logic) (N : Circuit) (P : CodePlan) → HasSoundStructure N P → FollowsSource M N P → IsFaultSecure M N P
