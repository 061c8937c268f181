-- Plan lines that are put into a section: they change neither its netlist nor what was found of it, and nothing refuses them there. The
-- statements of the laws.
use Rattle.std.specs.Prelude.{◌≡◌, ℕ, not, List, map, None, Some, slice_index}
use Rattle.std.specs.List.{filter}
use Rattle.tsc_text.specs.Lines.{lines_of}
use Rattle.tsc_text.specs.TextLine.{TextLine}
use Rattle.fault_secure.specs.CodePlan.{CodePlan}
use Rattle.fault_secure.specs.Logic.{Logic}
use Rattle.fault_secure.specs.CellSecure.{IsCellSecure}
use Rattle.blif_read.specs.Denotes.{plan_text, refusal}
use Rattle.blif_read.specs.declared.kinds.Kind.TheVariants.{Netlist, Unplanned}
use Rattle.mapping_reading.specs.ReadMapping.{some_block}
use Rattle.mapping_reading.specs.ReadMappingLaws.{IsSecureInAll}
use Rattle.mapping_reading.specs.NamedMapping.{moved_by_name, HasSameNames}
use Rattle.mapping_audit.specs.MappedAnswer.{IsReadSo}
use Rattle.text_sections.specs.Denoted.{first_lines, netlist_in, plan_in}
use Rattle.mapping_answers.specs.MappedReply.{IsMappingOf}
use Rattle.mapping_answers.specs.MappedSections.{mapped_in, mapped_refusal}
use Rattle.mapped_laws.specs.MappedLaws.{plan_words, section_net, ArePutInto}
use Rattle.mapped_laws.specs.MappedReplies.{mapped_section}

-- the words of the lines that are no plan lines, line by line
abbrev pub other_words : List TextLine → List (List (List ℕ))
other_words lines = map (λ line. line.words) (filter (λ line. not line.is_plan) lines)

-- these say which netlist a section denotes
abbrev pub PlanLinesChangeNoNetlist : Type 0
PlanLinesChangeNoNetlist = (lines others : List TextLine) → other_words lines ≡ other_words others → section_net lines ≡ section_net others

-- and whether nothing refuses it where its plan lines are passed over
abbrev pub PutPlanLinesArePassedOver : Type 0
PutPlanLinesArePassedOver = (bare others : List TextLine) → other_words others ≡ other_words bare
    → refusal Unplanned bare ≡ None → refusal Unplanned others ≡ None

-- the plan lines of a netlist's section, which nothing refuses, stand in the section of a netlist with its names, which nothing refuses
-- where plan lines are passed over: so nothing refuses this section as a netlist with its plan
abbrev pub PutPlanLinesAreAllowedAsANetlist : Type 0
PutPlanLinesAreAllowedAsANetlist = (lines others : List TextLine) → ArePutInto Unplanned lines others → refusal Netlist others ≡ None

-- the section `others` has the plan lines of a netlist's section, `lines`, which nothing refuses, and the other lines of a section that
-- nothing refuses where its plan lines, if it has any, are passed over, `bare`; by names the netlists of `lines` and `bare` have the same
-- inputs, latches and outputs, and each node's net is one of a gate
pub record ArePutBeside (lines bare others : List TextLine) : Type 0 where
  pub allowed : refusal Netlist lines ≡ None
  pub readable : refusal Unplanned bare ≡ None
  pub same : other_words others ≡ other_words bare
  pub words : plan_words others ≡ plan_words lines
  pub names : HasSameNames (section_net lines) (section_net bare)

-- the netlist of the second section reads as that of the first one mapped, where nets went by their names
abbrev pub ReadsMapped : List TextLine → List TextLine → Type 0
ReadsMapped lines others = IsReadSo (section_net lines).circuit (section_net others).circuit (moved_by_name (section_net lines) (section_net others))

-- so what was found of the section without these plan lines holds of it with them: nothing refuses it as a netlist with its plan, its
-- netlist has the names of the first one, and where it read as that one mapped, it does so by the same blocks
pub record KeepsMapping (lines bare others : List TextLine) : Type 0 where
  pub allowed : refusal Netlist others ≡ None
  pub names : HasSameNames (section_net lines) (section_net others)
  pub reads : (read : ReadsMapped lines bare) → (again : ReadsMapped lines others) × (again.blocks ≡ read.blocks)

abbrev pub PutPlanLinesKeepMappings : Type 0
PutPlanLinesKeepMappings = (lines bare others : List TextLine) → ArePutBeside lines bare others → KeepsMapping lines bare others

-- and let it read so, and the first netlist with its plan be secure against any one failing cell. Then it is secure with the plan that it
-- now states, against any gates of one block that fail at once, any one cell and each listed fault
abbrev pub AuditedNetlistsTakePlans : Type 0
AuditedNetlistsTakePlans = (M : Logic) (lines bare others : List TextLine) (P Q : CodePlan) → ArePutBeside lines bare others
    → (read : ReadsMapped lines bare)
    → plan_text Netlist lines (section_net lines) ≡ Some P → plan_text Netlist others (section_net others) ≡ Some Q
    → IsCellSecure M (section_net lines).circuit P
    → IsSecureInAll M (section_net lines).circuit (section_net others).circuit (some_block (section_net lines).circuit (slice_index read.blocks)) Q

-- so it is of a text whose first netlist lists its states, if it has any, and whose second is a mapping of it, as a yes of `audit mapped`
-- says: a section with the other lines of the second one and the plan lines of the first is refused by nothing as a netlist with its
-- plan. Where the first netlist with its plan is secure against any one failing cell, that section's netlist is so with the plan that it
-- states
abbrev pub AuditedTextsTakePlans : Type 0
AuditedTextsTakePlans = (M : Logic) (text : List ℕ) (others : List TextLine) (Q : CodePlan) → mapped_refusal text ≡ None
    → refusal Netlist (first_lines (lines_of text)) ≡ None → (is : IsMappingOf (netlist_in text) (mapped_in text))
    → other_words others ≡ other_words (mapped_section text) → plan_words others ≡ plan_words (first_lines (lines_of text))
    → (refusal Netlist others ≡ None) × (plan_text Netlist others (section_net others) ≡ Some Q → IsCellSecure M (netlist_in text).circuit (plan_in text)
    → IsSecureInAll M (netlist_in text).circuit (section_net others).circuit (some_block (netlist_in text).circuit (slice_index is.reads.blocks)) Q)
