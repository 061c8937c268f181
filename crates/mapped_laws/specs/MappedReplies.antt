-- What `audit mapped` answers to a text: one answer at most, and what its yes says of the plan lines of both netlists.
use Rattle.std.specs.Prelude.{◌≡◌, ℕ, List, None, slice_index}
use Rattle.tsc_text.specs.Lines.{lines_of}
use Rattle.tsc_text.specs.TextLine.{TextLine}
use Rattle.fault_secure.specs.CodePlan.{CodePlan}
use Rattle.fault_secure.specs.Logic.{Logic}
use Rattle.fault_secure.specs.CellSecure.{IsCellSecure}
use Rattle.blif_read.specs.Denotes.{refusal}
use Rattle.blif_read.specs.declared.kinds.Kind.TheVariants.{Netlist}
use Rattle.mapping_reading.specs.ReadMapping.{some_block}
use Rattle.mapping_reading.specs.ReadMappingLaws.{IsSecureInAll}
use Rattle.refusals.specs.declared.ending.Ending.{Ending}
use Rattle.text_sections.specs.Denoted.{first_lines, first_section, lines_from, netlist_in, plan_from, plan_in}
use Rattle.mapping_answers.specs.MappedReply.{HasWideCoverIn, IsMappedReply, IsMappingOf}
use Rattle.mapping_answers.specs.MappedSections.{mapped_in, mapped_refusal}
use Rattle.mapped_laws.specs.MappedLaws.{plan_words}

-- the text has one answer at most, with one ending, and none where it passes the limit on pins
pub record HasOneReply (text : List ℕ) : Type 0 where
  pub one : (ending another : Ending) (answer other : List ℕ) → IsMappedReply ending text answer → IsMappedReply another text other
      → (ending ≡ another) × (answer ≡ other)
  pub no_limit : (ending : Ending) (answer : List ℕ) → IsMappedReply ending text answer → HasWideCoverIn text → ⊥

-- so it is of each text that nothing refuses
abbrev pub MappedRepliesAreDetermined : Type 0
MappedRepliesAreDetermined = (text : List ℕ) → mapped_refusal text ≡ None → HasOneReply text

-- the lines of the mapped netlist's section, and the plan that their plan lines, which the command passes over, state for it
abbrev pub mapped_section : List ℕ → List TextLine
mapped_section text = lines_from (lines_of text) (first_section (lines_of text)).next

abbrev pub mapped_plan : List ℕ → CodePlan
mapped_plan text = plan_from (lines_of text) (first_section (lines_of text)).next

-- let the first netlist of a text list its states, if it has any, the second be a mapping of it, the plan lines of both have the same words,
-- and the first with its plan be secure against any one failing cell. Then the second with its plan is secure against any gates of one block that fail at once, any one
-- cell and each listed fault
abbrev pub MappedTextsAreSecure : Type 0
MappedTextsAreSecure = (M : Logic) (text : List ℕ) → mapped_refusal text ≡ None → refusal Netlist (first_lines (lines_of text)) ≡ None → (is : IsMappingOf (netlist_in text) (mapped_in text))
    → plan_words (mapped_section text) ≡ plan_words (first_lines (lines_of text)) → IsCellSecure M (netlist_in text).circuit (plan_in text)
    → IsSecureInAll M (netlist_in text).circuit (mapped_in text).circuit (some_block (netlist_in text).circuit (slice_index is.reads.blocks)) (mapped_plan text)
