-- What is answered to a text of a network and a netlist that is audited whatever the number of inputs.
use Rattle.std.specs.Prelude.{◌≡◌, ℕ, List, None, Some}
use Rattle.fault_secure.specs.CellSecure.{IsCellSecure}
use Rattle.fault_secure.specs.Circuit.{Circuit}
use Rattle.fault_secure.specs.CodePlan.{CodePlan}
use Rattle.fault_secure.specs.FaultSecure.{IsFaultSecure}
use Rattle.fault_secure.specs.Logic.{Network}
use Rattle.tsc_net.specs.NetlistOf.{NetlistOf}
use Rattle.wide_audit.specs.WideVerdict.{IsSpent, IsWideVerdict}
use Rattle.wide_audit.specs.declared.verdict.WideError.{WideError}
use Rattle.wide_audit.specs.declared.verdict.WideError.TheVariants.{Spent, Memory as NoMemory}
use Rattle.wide_audit.specs.declared.verdict.WideReason.{WideReason}
use Rattle.wide_audit.specs.declared.verdict.WideVerdict.{WideVerdict}
use Rattle.wide_audit.specs.declared.verdict.WideVerdict.TheVariants.{Yes, No}
use Rattle.refusals.specs.declared.ending.Ending.{Ending}
use Rattle.refusals.specs.declared.ending.Ending.TheVariants.{Finished, Rejected}
use Rattle.refusals.specs.declared.limit.OwnLimit.TheVariants.{Rows}
use Rattle.refusals.specs.declared.refusal.Refusal.{Refusal}
use Rattle.refusals.specs.declared.refusal.Refusal.TheVariants.{Memory, Beyond}
use Rattle.commands.specs.declared.source_format.SourceFormat.TheVariants.{Blif}
use Rattle.text_sections.specs.Denoted.{netlist_in, second_netlist_in, second_plan_in}
use Rattle.text_sections.specs.Refused.{StopsBeyond}
use Rattle.wide_answers.specs.WideSections.{wide_refusal}
use Rattle.wide_answers.specs.WideText.{wide_text}

-- the verdict on a netlist with its plan is yes with so many rows: it is secure for the network, whichever one cell fails in any way, and
-- whichever one listed fault is present at any steps; and the answer says so
pub record IsWideYes (rows : ℕ) (S : Circuit) (net : NetlistOf) (plan : CodePlan) (answer : List ℕ) : Type 0 where
  pub verdict : IsWideVerdict rows S net.circuit plan Yes
  pub cells : IsCellSecure (Network S) net.circuit plan
  pub secure : IsFaultSecure (Network S) net.circuit plan
  pub written : answer ≡ wide_text net Yes

-- the verdict on them is no for a first reason, and the answer tells it
pub record IsWideNo (rows : ℕ) (S : Circuit) (net : NetlistOf) (plan : CodePlan) (answer : List ℕ) : Type 0 where
  pub reason : WideReason
  pub verdict : IsWideVerdict rows S net.circuit plan (No reason)
  pub written : answer ≡ wide_text net (No reason)

-- the answer on them, by how the command ends
abbrev pub IsWideReplyOf : Ending → ℕ → Circuit → NetlistOf → CodePlan → List ℕ → Type 0
IsWideReplyOf Finished rows S net plan answer = IsWideYes rows S net plan answer
IsWideReplyOf Rejected rows S net plan answer = IsWideNo rows S net plan answer

-- the answer to a text, by how the command ends: on the network that it begins with, and the netlist and the plan after it
abbrev pub IsWideReply : Ending → ℕ → List ℕ → List ℕ → Type 0
IsWideReply ending rows text answer =
    IsWideReplyOf ending rows (netlist_in text).circuit (second_netlist_in Blif text) (second_plan_in Blif text) answer

-- there is no verdict on the netlist of a text with so many rows: the functions that are stated have more different cofactors
abbrev pub NeedsMoreRows : ℕ → List ℕ → Type 0
NeedsMoreRows rows text = IsSpent rows (netlist_in text).circuit (second_netlist_in Blif text).circuit (second_plan_in Blif text)

-- why there is no answer where there is no verdict
abbrev pub refusal_by : WideError → Refusal
refusal_by (Spent rows) = Beyond (Rows rows)
refusal_by (NoMemory error) = Memory error

-- why a netlist has no answer: want of memory, or that
abbrev pub StopsJudged : ℕ → Circuit → NetlistOf → CodePlan → Refusal → Type 0
StopsJudged rows S net plan refusal = StopsBeyond (Some (Rows rows)) None (IsSpent rows S net.circuit plan) refusal

-- why there is no answer to a text: what refuses it, or the number of rows
abbrev pub StopsWide : ℕ → List ℕ → Refusal → Type 0
StopsWide rows text refusal = StopsBeyond (Some (Rows rows)) (wide_refusal text) (NeedsMoreRows rows text) refusal

-- how a wide audit ends with a verdict
abbrev pub wide_ending : WideVerdict → Ending
wide_ending Yes = Finished
wide_ending (No why) = Rejected
