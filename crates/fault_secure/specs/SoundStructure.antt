-- The structure of a netlist with its plan that makes it fault-secure where it follows its source.
use Rattle.fault_secure.specs.declared.code.Code.{Code}
use Rattle.fault_secure.specs.declared.code.Code.TheVariants.{Parity, Berger, MOutOfN}
use Rattle.fault_secure.specs.Circuit.{Circuit}
use Rattle.fault_secure.specs.Closed.{IsClosed}
use Rattle.fault_secure.specs.Settle.{Acyclic}
use Rattle.fault_secure.specs.CodePlan.{CodePlan, IsWellMade, IsPlanOf}
use Rattle.fault_secure.specs.Structure.{RailsOutside, ReadsOnlyWord, IsUnate, HasDisjointCones, IsCodeDisjoint}

-- what each code asks of the function: groups with disjoint cones, or negations only at inputs
abbrev pub SuitsCode : Code → Circuit → CodePlan → Type 0
SuitsCode Parity N P = HasDisjointCones N P
SuitsCode Berger N P = IsUnate N P
SuitsCode MOutOfN N P = IsUnate N P

-- the structure of a netlist with its plan that an audit asks for
pub record HasSoundStructure (N : Circuit) (P : CodePlan) : Type 0 where
  pub well_made : IsWellMade P
  pub plan_of : IsPlanOf N P
  pub closed : IsClosed N
  pub acyclic : Acyclic N
  pub rails : RailsOutside N P
  pub reads : ReadsOnlyWord N P
  pub suits : SuitsCode P.code N P
  pub checker : IsCodeDisjoint N P
