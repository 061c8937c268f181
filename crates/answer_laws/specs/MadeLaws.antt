-- What backs the report of `make`: the statement of the law on it.
use Rattle.std.specs.Prelude.{◌≡◌, ◌≤◌, ℕ, List, length, None}
use Rattle.fault_secure.specs.declared.code.Code.TheVariants.{Berger}
use Rattle.fault_secure.specs.CodePlan.{monitored}
use Rattle.machine_maker.specs.MadeText.{made_text}
use Rattle.commands.specs.declared.source_format.SourceFormat.TheVariants.{Kiss}
use Rattle.answer_laws.specs.AnswerLaws.{IsAcceptedBehind}
use Rattle.answers.specs.Answers.{IsMachineSynthesis}
use Rattle.text_sections.specs.Denoted.{netlist_in, plan_in}
use Rattle.made_report.specs.Made.{figures_of, made_machine, make_refusal}

-- nothing refuses the text of a number: neither a synthesis of it under the Berger code, nor an audit for its points
abbrev pub MadeTextsAreAllowed : Type 0
MadeTextsAreAllowed = (number : ℕ) → make_refusal (made_text number) ≡ None

-- this answer to the text of a number backs the report on it: an audit of both texts in a row accepts it, its netlist has the printed
-- checks and latches and a monitored word of the printed length, and at most so many covers as the printed bound
pub record BacksReport (number : ℕ) (answer : List ℕ) : Type 0 where
  pub accepted : IsAcceptedBehind Kiss (made_text number) answer
  pub checks : length (plan_in answer).checks ≡ (figures_of (made_machine number)).checks
  pub latches : length (netlist_in answer).circuit.latches ≡ (figures_of (made_machine number)).latches
  pub word : length (monitored (netlist_in answer).circuit (plan_in answer)) ≡ (figures_of (made_machine number)).word
  pub covers : length (netlist_in answer).circuit.nodes ≤ (figures_of (made_machine number)).bound

-- whatever a synthesis under the Berger code answers to the text of a number backs the report on it
abbrev pub MadeReportsAreBacked : Type 0
MadeReportsAreBacked = (number : ℕ) (answer : List ℕ) → IsMachineSynthesis Berger (made_text number) answer → BacksReport number answer
