-- What the search for a wrong point answers, and what is answered on what is asked.
use Rattle.std.specs.Prelude.{◌≡◌, ℕ, Bool, List, length, Option, Some, None}
use Rattle.tsc_bits.specs.Bits.{binary}
use Rattle.fault_secure.specs.Circuit.{Circuit}
use Rattle.fault_secure.specs.CodePlan.{CodePlan}
use Rattle.fault_secure.specs.Logic.{Network}
use Rattle.behaviour_audit.specs.Reason.{IsBehaviourAnswer}
use Rattle.behaviour_audit.specs.declared.reason.BehaviourReason.{BehaviourReason}
use Rattle.behaviour_audit.specs.declared.reason.BehaviourReason.TheVariants.{Word, Output}
use Rattle.wide_diagrams.specs.Wide.{NeedMoreRows}
use Rattle.wide_audit.specs.declared.verdict.WideReason.{WideReason}
use Rattle.wide_audit.specs.declared.verdict.WideReason.TheVariants as wide
use Rattle.wide_audit.specs.declared.verdict.WideError.{WideError}
use Rattle.wide_audit.specs.declared.verdict.WideError.TheVariants.{Spent, Memory}
use Rattle.wide_audit.specs.declared.wrong.WrongPoint.{WrongPoint}
use Rattle.wide_audit.specs.declared.asked.Asked.{Asked}
use Rattle.wide_audit.specs.declared.verdict.WideVerdict.{WideVerdict}
use Rattle.wide_audit.specs.WideVerdict.{IsWideVerdict, IsWideError}

-- the reason of the audit that a wrong point is
abbrev pub reason_at : ℕ → Option ℕ → BehaviourReason
reason_at input None = Word 0 input
reason_at input (Some place) = Output 0 input place

-- and the reason of a wide audit
abbrev pub reason_of : List Bool → Option ℕ → WideReason
reason_of input None = wide.Word input
reason_of input (Some place) = wide.Output input place

-- nothing where the netlist follows its source, else the first wrong point, which the audit reads as a number
abbrev pub IsPointAnswer : Circuit → Circuit → CodePlan → Option WrongPoint → Type 0
IsPointAnswer S N P None = IsBehaviourAnswer (Network S) N P None
IsPointAnswer S N P (Some point) =
    (length point.input.items ≡ N.inputs) × IsBehaviourAnswer (Network S) N P (Some (reason_at (binary point.input.items) point.output))

-- why the search has no answer: the stated functions have more different cofactors than rows, or memory was missing
abbrev pub IsPointError : ℕ → Circuit → Circuit → CodePlan → WideError → Type 0
IsPointError rows S N P (Spent said) = (said ≡ rows) × NeedMoreRows rows S N P
IsPointError rows S N P (Memory e) = Unit {0}

-- the verdict on what is asked
abbrev pub IsVerdictOn : Asked → WideVerdict → Type 0
IsVerdictOn asked = IsWideVerdict asked.rows asked.source.now.circuit asked.net.now.circuit asked.plan.now

-- why there is none
abbrev pub IsErrorOn : Asked → WideError → Type 0
IsErrorOn asked = IsWideError asked.rows asked.source.now.circuit asked.net.now.circuit asked.plan.now
