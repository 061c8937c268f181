-- What a wide verdict gives, and what gives one: the statements of the laws.
use Rattle.std.specs.Prelude.{◌≡◌, ℕ, length}
use Rattle.fault_secure.specs.Circuit.{Circuit}
use Rattle.fault_secure.specs.Closed.{IsClosed}
use Rattle.fault_secure.specs.CodePlan.{CodePlan, IsWellMade, IsPlanOf}
use Rattle.fault_secure.specs.Logic.{Network}
use Rattle.code_checkers.specs.SelfChecking.{IsSelfChecking}
use Rattle.audit.specs.Verdict.{FitsSource}
use Rattle.audit.specs.Laws.{IsPlanned, IsSecure}
use Rattle.wide_audit.specs.declared.verdict.WideReason.{WideReason}
use Rattle.wide_audit.specs.declared.verdict.WideVerdict.{WideVerdict}
use Rattle.wide_audit.specs.declared.verdict.WideVerdict.TheVariants.{Yes, No}
use Rattle.wide_audit.specs.WideVerdict.{HasFunctions, IsWideVerdict, IsSpent}
use Rattle.wide_audit.specs.Shown.{IsWideIn}

-- what a verdict says of security: a yes says that the netlist is secure for its source
abbrev pub IsSecureWhereYes : Circuit → Circuit → CodePlan → WideVerdict → Type 0
IsSecureWhereYes S N P Yes = IsSecure (Network S) N P
IsSecureWhereYes S N P (No why) = Unit {0}

-- a netlist that a wide audit accepts is secure for its source
abbrev pub WideYesIsSecure : Type 0
WideYesIsSecure = (rows : ℕ) (S N : Circuit) (P : CodePlan) → IsPlanned N P → IsWideVerdict rows S N P Yes → IsSecure (Network S) N P

-- a self-checking netlist without latches that fits its source, as a synthesis answers it, is accepted with as many rows as its functions have different cofactors
abbrev pub SelfCheckingIsWideYes : Type 0
SelfCheckingIsWideYes = (rows : ℕ) (S N : Circuit) (P : CodePlan) → IsSelfChecking (Network S) N P → FitsSource (Network S) N P → HasFunctions rows S N P → IsWideVerdict rows S N P Yes

-- and refused with no number of rows
abbrev pub SelfCheckingIsNoWideNo : Type 0
SelfCheckingIsNoWideNo = (rows : ℕ) (S N : Circuit) (P : CodePlan) (why : WideReason) → IsSelfChecking (Network S) N P → FitsSource (Network S) N P → length N.latches ≡ 0
    → IsWideVerdict rows S N P (No why) → ⊥

-- what a wide verdict names can be told of the netlist
abbrev pub WideVerdictsAreShown : Type 0
WideVerdictsAreShown = (rows : ℕ) (S N : Circuit) (P : CodePlan) (verdict : WideVerdict) → IsClosed N → IsPlanOf N P → IsWideVerdict rows S N P verdict → IsWideIn N verdict

-- of a netlist with a well-made plan of it there is at most one verdict with so many rows
abbrev pub OneWideVerdict : Type 0
OneWideVerdict = (rows : ℕ) (S N : Circuit) (P : CodePlan) (first second : WideVerdict) → IsPlanOf N P → IsWellMade P
    → IsWideVerdict rows S N P first → IsWideVerdict rows S N P second → first ≡ second

-- and none where there is none
abbrev pub SpentHasNoVerdict : Type 0
SpentHasNoVerdict = (rows : ℕ) (S N : Circuit) (P : CodePlan) (verdict : WideVerdict) → IsSpent rows S N P → IsWideVerdict rows S N P verdict → ⊥
