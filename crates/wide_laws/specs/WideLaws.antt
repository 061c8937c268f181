-- A wide audit beside the other commands: the statements of the laws.
use Rattle.std.specs.Prelude.{◌≡◌, ℕ, List, [], ◌∷◌, ◌++◌, codes, length, None}
use Rattle.tsc_text.specs.declared.section.End.TheVariants.{Blif as BlifEnd}
use Rattle.synth_ways.specs.declared.way.Way.{Way}
use Rattle.blif_read.specs.declared.kinds.Kind.TheVariants.{Source}
use Rattle.commands.specs.declared.command.Command.TheVariants.{Audit, AuditWide}
use Rattle.commands.specs.declared.source_format.SourceFormat.TheVariants.{Blif}
use Rattle.text_sections.specs.Denoted.{netlist_in, plan_in, second_netlist_in}
use Rattle.text_sections.specs.Refused.{text_refusal}
use Rattle.wide_diagrams.specs.Wide.{NeedAtMost}
use Rattle.answers.specs.Commands.{IsAnswer, IsNo, refusal_of}
use Rattle.answers.specs.Answers.{IsSynthesis}
use Rattle.answer_laws.specs.AnswerLaws.{IsEndedSource}

-- a wide audit of the two texts in a row refuses nothing, answers `yes` where the functions that they state have at most as many different
-- cofactors as there are rows, and never `no`
pub record IsWidelyAccepted (rows : ℕ) (text answer : List ℕ) : Type 0 where
  pub allowed : refusal_of (AuditWide rows) (text ++ answer) ≡ None
  pub yes : NeedAtMost rows (netlist_in text).circuit (netlist_in answer).circuit (plan_in answer)
      → IsAnswer (AuditWide rows) (text ++ answer) (codes "yes" ++ 10 ∷ [])
  pub never_no : (reply : List ℕ) → IsNo (AuditWide rows) (text ++ answer) reply → ⊥

-- so it is with what a synthesis answers, after its source, where that has an end line
abbrev pub WideAnswersAreAccepted : Type 0
WideAnswersAreAccepted = (way : Way) (rows : ℕ) (text answer : List ℕ) → text_refusal Source text ≡ None → IsEndedSource BlifEnd text
    → IsSynthesis way text answer → IsWidelyAccepted rows text answer

-- the answer `yes` of a wide audit is the audit's
abbrev pub WideYesIsYes : Type 0
WideYesIsYes = (rows : ℕ) (text answer : List ℕ) → IsAnswer (AuditWide rows) text answer → IsAnswer (Audit Blif) text answer

-- and so is its `no` of a netlist without latches, with the same reason, byte by byte
abbrev pub WideNoIsNo : Type 0
WideNoIsNo = (rows : ℕ) (text answer : List ℕ) → length (second_netlist_in Blif text).circuit.latches ≡ 0 → IsNo (AuditWide rows) text answer → IsNo (Audit Blif) text answer
