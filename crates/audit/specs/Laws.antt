-- What a verdict gives, and what gives a verdict: the statements of the laws.
use Rattle.std.specs.Prelude.{◌≡◌, ◌≤◌}
use Rattle.fault_secure.specs.Circuit.{Circuit}
use Rattle.fault_secure.specs.Closed.{IsClosed}
use Rattle.fault_secure.specs.Settle.{Acyclic}
use Rattle.fault_secure.specs.CodePlan.{CodePlan, IsWellMade, IsPlanOf}
use Rattle.fault_secure.specs.Logic.{Logic, inputs_of}
use Rattle.fault_secure.specs.FaultSecure.{IsFaultSecure}
use Rattle.fault_secure.specs.CellSecure.{IsCellSecure}
use Rattle.code_checkers.specs.SelfChecking.{IsSelfChecking}
use Rattle.audit.specs.declared.verdict.Verdict.{Verdict}
use Rattle.audit.specs.declared.verdict.Verdict.TheVariants.{Yes, No}
use Rattle.audit.specs.Verdict.{FitsSource, IsVerdict}
use Rattle.audit.specs.Shown.{IsShownIn}

-- what is audited: a circuit whose reads are nets and that has no ring, with a well-made plan of it
pub record IsPlanned (N : Circuit) (P : CodePlan) : Type 0 where
  pub closed : IsClosed N
  pub acyclic : Acyclic N
  pub well_made : IsWellMade P
  pub plan_of : IsPlanOf N P

-- secure against any one failing cell, and fault-secure
abbrev pub IsSecure : Logic → Circuit → CodePlan → Type 0
IsSecure M N P = IsCellSecure M N P × IsFaultSecure M N P

-- what a verdict says of security: a yes says that the netlist is secure for its source
abbrev pub IsSecureWhereYes : Logic → Circuit → CodePlan → Verdict → Type 0
IsSecureWhereYes M N P Yes = IsSecure M N P
IsSecureWhereYes M N P (No why) = Unit {0}

-- a netlist that an audit accepts is secure for its source
abbrev pub AcceptedIsSecure : Type 0
AcceptedIsSecure = (M : Logic) (N : Circuit) (P : CodePlan) → IsPlanned N P → IsVerdict M N P Yes → IsSecure M N P

-- a netlist of sound structure that follows its source, whose rails realise the stated checker, as a synthesis answers it, is accepted
abbrev pub SelfCheckingIsAccepted : Type 0
SelfCheckingIsAccepted = (M : Logic) (N : Circuit) (P : CodePlan) → IsSelfChecking M N P → FitsSource M N P → IsVerdict M N P Yes

-- what a verdict names can be told of the netlist
abbrev pub VerdictsAreShown : Type 0
VerdictsAreShown = (M : Logic) (N : Circuit) (P : CodePlan) (verdict : Verdict) → IsClosed N → IsPlanOf N P → inputs_of M ≤ 20
    → IsVerdict M N P verdict → IsShownIn N verdict

-- of a netlist with a well-made plan of it there is at most one verdict: two are the same
abbrev pub OneVerdict : Type 0
OneVerdict = (M : Logic) (N : Circuit) (P : CodePlan) (first second : Verdict) → IsPlanOf N P → IsWellMade P → IsVerdict M N P first
    → IsVerdict M N P second → first ≡ second
