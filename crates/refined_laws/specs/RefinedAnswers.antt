-- What a synthesis answers to a table is secure for each table that this one refines: the statement of the law.
use Rattle.std.specs.Prelude.{◌≡◌, ℕ, List, None}
use Rattle.synth_ways.specs.declared.way.Way.{Way}
use Rattle.fault_secure.specs.CellSecure.{IsCellSecure}
use Rattle.fault_secure.specs.FaultSecure.{IsFaultSecure}
use Rattle.table_refinement.specs.TableRefinement.{Refines}
use Rattle.commands.specs.declared.source_format.SourceFormat.TheVariants.{Pla}
use Rattle.text_sections.specs.Denoted.{netlist_in, plan_in, source_in, table_in}
use Rattle.text_sections.specs.Refused.{pla_text_refusal}
use Rattle.answers.specs.Answers.{IsLooseSynthesis}

-- nothing refuses two PLA texts, and the table of the first refines that of the second
pub record RefinesText (text other : List ℕ) : Type 0 where
  pub read : pla_text_refusal text ≡ None
  pub other_read : pla_text_refusal other ≡ None
  pub refines : Refines (table_in text) (table_in other)

-- the netlist of an answer, with its plan, is secure for the source that a PLA text begins with
pub record IsSecureForTable (text answer : List ℕ) : Type 0 where
  pub cells : IsCellSecure (source_in Pla text) (netlist_in answer).circuit (plan_in answer)
  pub secure : IsFaultSecure (source_in Pla text) (netlist_in answer).circuit (plan_in answer)

abbrev pub RefinedAnswersAreSecure : Type 0
RefinedAnswersAreSecure = (way : Way) (text other answer : List ℕ) → RefinesText text other → IsLooseSynthesis way text answer → IsSecureForTable other answer
