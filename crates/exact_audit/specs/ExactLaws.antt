-- What an exact verdict gives, and what gives one: the statements of the laws.
use Rattle.std.specs.Prelude.{◌≡◌, ◌≤◌, ◌↔◌, ℕ, Bool, List, length, Some, IsTrue}
use Rattle.fault_secure.specs.Circuit.{Circuit}
use Rattle.fault_secure.specs.StuckAt.{StuckAt, NoFault, is_listed}
use Rattle.fault_secure.specs.Run.{Runs}
use Rattle.fault_secure.specs.CodePlan.{CodePlan, IsPlanOf, IsWellMade}
use Rattle.fault_secure.specs.Logic.{Logic, inputs_of}
use Rattle.fault_secure.specs.FaultSecure.{NoSilentError}
use Rattle.fault_secure.specs.CellSecure.{IsCellSecure}
use Rattle.fault_secure.specs.Exposing.{word_of_state}
use Rattle.tsc_net.specs.declared.ids.NetId.{NetId}
use Rattle.code_checkers.specs.SelfChecking.{IsSelfChecking}
use Rattle.point_laws.specs.Reached.{IsReached}
use Rattle.point_laws.specs.Heard.{IsAlarmSecure, AllowsOneOutput}
use Rattle.audit.specs.Verdict.{FitsSource, IsVerdict}
use Rattle.audit.specs.Laws.{IsPlanned}
use Rattle.audit.specs.declared.verdict.Verdict.TheVariants.{Yes as AuditYes}
use Rattle.unheard_cells.specs.PointReason.{IsPointAnswer}
use Rattle.unheard_cells.specs.declared.reason.PointReason.TheVariants.{Quiet, Alarm}
use Rattle.exact_audit.specs.ExactVerdict.{IsExactVerdict, IsExactIn}
use Rattle.exact_audit.specs.declared.verdict.ExactReason.{ExactReason}
use Rattle.exact_audit.specs.declared.verdict.ExactVerdict.{ExactVerdict}
use Rattle.exact_audit.specs.declared.verdict.ExactVerdict.TheVariants.{Yes, No}

-- what a verdict says of security: a yes says that the netlist is alarm-secure for its source
abbrev pub IsAlarmSecureWhereYes : Logic → Circuit → CodePlan → ExactVerdict → Type 0
IsAlarmSecureWhereYes M N P Yes = IsAlarmSecure M N P
IsAlarmSecureWhereYes M N P (No why) = Unit {0}

-- a netlist of which an exact audit says yes is alarm-secure, whatever its structure: whichever one cell fails
abbrev pub ExactIsAlarmSecure : Type 0
ExactIsAlarmSecure = (M : Logic) (N : Circuit) (P : CodePlan) → IsPlanned N P → IsExactVerdict M N P Yes → IsAlarmSecure M N P

-- and so with one listed fault, present at any steps, no wrong output comes before its alarm
abbrev pub ExactShowsFaults : Type 0
ExactShowsFaults = (M : Logic) (N : Circuit) (P : CodePlan) → IsPlanned N P → IsExactVerdict M N P Yes
    → (f : StuckAt) (w : List Bool) (xs vs us : List (List Bool)) → IsTrue (is_listed N f) → Runs N NoFault w xs vs → Runs N f w xs us
    → NoSilentError M N P xs vs us

-- of a netlist without latches that fits a source which allows one list of outputs, it says yes exactly where the netlist is alarm-secure
abbrev pub NetworksAreDecidedExactly : Type 0
NetworksAreDecidedExactly = (M : Logic) (N : Circuit) (P : CodePlan) → AllowsOneOutput M P.version → IsPlanned N P → FitsSource M N P → length N.latches ≡ 0
    → IsExactVerdict M N P Yes ↔ IsAlarmSecure M N P

-- and each no of it says that it isn't
abbrev pub NoOfANetworkRefutes : Type 0
NoOfANetworkRefutes = (M : Logic) (N : Circuit) (P : CodePlan) (why : ExactReason) → AllowsOneOutput M P.version → IsPlanned N P → FitsSource M N P
    → length N.latches ≡ 0 → IsExactVerdict M N P (No why) → IsAlarmSecure M N P → ⊥

-- with latches, a false alarm at a state that a run comes to refutes alarm-secure, and a cell unheard there security against any one failing cell
pub record NoAtReachedRefutes : Type 0 where
  pub quiet : (M : Logic) (N : Circuit) (P : CodePlan) (q input : ℕ) (s : List Bool) → word_of_state P q ≡ Some s → IsReached N s
      → IsPointAnswer N P (Some (Quiet q input)) → IsAlarmSecure M N P → ⊥
  pub alarm : (M : Logic) (N : Circuit) (P : CodePlan) (net : NetId) (value : Bool) (q input : ℕ) (s : List Bool) → word_of_state P q ≡ Some s → IsReached N s
      → IsPointAnswer N P (Some (Alarm net value q input)) → IsCellSecure M N P → ⊥

-- a netlist that the audit of structure accepts has an exact yes
abbrev pub AuditedIsExact : Type 0
AuditedIsExact = (M : Logic) (N : Circuit) (P : CodePlan) → IsPlanned N P → IsVerdict M N P AuditYes → IsExactVerdict M N P Yes

-- so has a self-checking one, as a synthesis answers it, that fits its source
abbrev pub SelfCheckingIsExact : Type 0
SelfCheckingIsExact = (M : Logic) (N : Circuit) (P : CodePlan) → IsSelfChecking M N P → FitsSource M N P → IsExactVerdict M N P Yes

-- of a netlist with a well-made plan of it there is at most one verdict: two are the same
abbrev pub OneExactVerdict : Type 0
OneExactVerdict = (M : Logic) (N : Circuit) (P : CodePlan) (first second : ExactVerdict) → IsPlanOf N P → IsWellMade P → IsExactVerdict M N P first
    → IsExactVerdict M N P second → first ≡ second

-- what a verdict names can be told of the netlist
abbrev pub ExactVerdictsAreShown : Type 0
ExactVerdictsAreShown = (M : Logic) (N : Circuit) (P : CodePlan) (verdict : ExactVerdict) → inputs_of M ≤ 20 → IsExactVerdict M N P verdict → IsExactIn N verdict
