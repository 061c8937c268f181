-- Self-checking netlists: what a synthesis and an audit ask for.
use Rattle.fault_secure.specs.Circuit.{Circuit}
use Rattle.fault_secure.specs.CodePlan.{CodePlan}
use Rattle.fault_secure.specs.Logic.{Logic}
use Rattle.fault_secure.specs.Behaviour.{FollowsSource}
use Rattle.fault_secure.specs.SoundStructure.{HasSoundStructure}
use Rattle.code_checkers.specs.Block.{RailsRealise}

-- its structure is sound, each rail realises its gate of the stated checker, and without a fault it follows the source
pub record IsSelfChecking (M : Logic) (N : Circuit) (P : CodePlan) : Type 0 where
  pub structure : HasSoundStructure N P
  pub rails : RailsRealise N P
  pub follows : FollowsSource M N P
