-- What plan lines state for a mapped netlist, and that each netlist is mapped to itself: the statements of the laws.
use Rattle.std.specs.Prelude.{◌≡◌, ℕ, List, map, None, Some, slice_index}
use Rattle.std.specs.List.{filter}
use Rattle.tsc_text.specs.TextLine.{TextLine}
use Rattle.fault_secure.specs.CodePlan.{CodePlan}
use Rattle.fault_secure.specs.Logic.{Logic}
use Rattle.fault_secure.specs.CellSecure.{IsCellSecure}
use Rattle.tsc_net.specs.NetlistOf.{NetlistOf, IsBuilt, netlist_of}
use Rattle.blif_read.specs.Denotes.{plan_text, refusal}
use Rattle.blif_read.specs.NamedText.{named_text}
use Rattle.blif_read.specs.Planned.{ArePlanned}
use Rattle.blif_read.specs.PlanFault.{plan_refusal}
use Rattle.blif_read.specs.PlanText.{plan_with}
use Rattle.blif_read.specs.declared.kinds.Kind.{Kind}
use Rattle.blif_read.specs.declared.kinds.Kind.TheVariants.{Netlist, Unplanned}
use Rattle.mapping_laws.specs.Mapping.{moved_plan}
use Rattle.mapping_reading.specs.ReadMapping.{some_block}
use Rattle.mapping_reading.specs.ReadMappingLaws.{IsSecureInAll}
use Rattle.mapping_reading.specs.Pins.{at_of}
use Rattle.mapping_reading.specs.NamedMapping.{moved_by_name, HasSameNames}
use Rattle.mapping_audit.specs.MappedAnswer.{IsMappedAnswer, IsReadSo}
use Rattle.mapping_audit.specs.declared.answer.MappedAnswer.TheVariants.{Yes}

-- the netlist that the lines of a section denote
abbrev pub section_net : List TextLine → NetlistOf
section_net lines = netlist_of (named_text lines)

-- it is a built one where nothing refuses the section
abbrev pub SectionsAreBuilt : Type 0
SectionsAreBuilt = (kind : Kind) (lines : List TextLine) → refusal kind lines ≡ None → IsBuilt (section_net lines)

-- a section that nothing refuses as a netlist with its plan is refused by nothing where its plan lines are passed over
abbrev pub PlanLinesMayBePassedOver : Type 0
PlanLinesMayBePassedOver = (lines : List TextLine) → refusal Netlist lines ≡ None → refusal Unplanned lines ≡ None

-- plan lines whose names nothing refuses with N are so with G, where by names inputs, latches and outputs are the same and each
-- node's net is one of a gate
abbrev pub PlanLinesStayAllowed : Type 0
PlanLinesStayAllowed = (lines : List TextLine) (N G : NetlistOf) → IsBuilt N → IsBuilt G → HasSameNames N G → ArePlanned lines
    → plan_refusal lines N ≡ None → plan_refusal lines G ≡ None

-- and read with G they state the plan that they state with N, moved by names
abbrev pub PlansMoveByName : Type 0
PlansMoveByName = (head : TextLine) (lines : List TextLine) (N G : NetlistOf) → IsBuilt N → IsBuilt G → HasSameNames N G → ArePlanned lines
    → plan_refusal lines N ≡ None
    → plan_with head lines G ≡ moved_plan (at_of G.circuit (moved_by_name N G)) (plan_with head lines N)

-- so let G read as N mapped, by the blocks that are found, and N with the plan that the lines state be secure against any one failing
-- cell. Then G with the plan that they state is secure against any gates of one block that fail at once, any one cell and each listed fault
abbrev pub MappedPlansAreSecure : Type 0
MappedPlansAreSecure = (M : Logic) (head : TextLine) (lines : List TextLine) (N G : NetlistOf) → IsBuilt N → IsBuilt G → HasSameNames N G
    → (reads : IsReadSo N.circuit G.circuit (moved_by_name N G)) → ArePlanned lines → plan_refusal lines N ≡ None
    → IsCellSecure M N.circuit (plan_with head lines N)
    → IsSecureInAll M N.circuit G.circuit (some_block N.circuit (slice_index reads.blocks)) (plan_with head lines G)

-- the words of the plan lines, line by line
abbrev pub plan_words : List TextLine → List (List (List ℕ))
plan_words lines = map (λ line. line.words) (filter (λ line. line.is_plan) lines)

-- these say which plan a section states for a netlist
abbrev pub PlansAreInPlanLines : Type 0
PlansAreInPlanLines = (lines others : List TextLine) (net : NetlistOf) → plan_words lines ≡ plan_words others
    → plan_text Netlist lines net ≡ plan_text Netlist others net

-- and whether they are refused with it
abbrev pub PlanRefusalsAreInPlanLines : Type 0
PlanRefusalsAreInPlanLines = (lines others : List TextLine) (net : NetlistOf) → plan_words lines ≡ plan_words others
    → plan_refusal lines net ≡ None → plan_refusal others net ≡ None

-- the plan lines of a netlist's section, which nothing refuses, stand in the section of a netlist with its names, which nothing refuses
-- as one of some kind
pub record ArePutInto (kind : Kind) (lines others : List TextLine) : Type 0 where
  pub allowed : refusal Netlist lines ≡ None
  pub readable : refusal kind others ≡ None
  pub words : plan_words others ≡ plan_words lines
  pub names : HasSameNames (section_net lines) (section_net others)

-- so nothing refuses their names there
abbrev pub PutPlanLinesAreAllowed : Type 0
PutPlanLinesAreAllowed = (kind : Kind) (lines others : List TextLine) → ArePutInto kind lines others → plan_refusal others (section_net others) ≡ None

-- and they state there the plan of that netlist, moved by names
abbrev pub PutPlanLinesMove : Type 0
PutPlanLinesMove = (kind : Kind) (lines others : List TextLine) (P : CodePlan) → ArePutInto kind lines others
    → plan_text Netlist lines (section_net lines) ≡ Some P
    → plan_text Netlist others (section_net others) ≡ Some (moved_plan (at_of (section_net others).circuit (moved_by_name (section_net lines) (section_net others))) P)

-- and let the netlist there read as the first one mapped, by the blocks that are found, and this one with its plan be secure against
-- any one failing cell. Then that one is secure with the plan that it now states, against any gates of one block that fail at once, any one
-- cell and each listed fault
abbrev pub PutPlanLinesAreSecure : Type 0
PutPlanLinesAreSecure = (M : Logic) (kind : Kind) (lines others : List TextLine) (P Q : CodePlan) → ArePutInto kind lines others
    → (reads : IsReadSo (section_net lines).circuit (section_net others).circuit (moved_by_name (section_net lines) (section_net others)))
    → plan_text Netlist lines (section_net lines) ≡ Some P → plan_text Netlist others (section_net others) ≡ Some Q
    → IsCellSecure M (section_net lines).circuit P
    → IsSecureInAll M (section_net lines).circuit (section_net others).circuit (some_block (section_net lines).circuit (slice_index reads.blocks)) Q

-- each netlist is mapped to itself
abbrev pub NetlistsAreMappedToThemselves : Type 0
NetlistsAreMappedToThemselves = (N : NetlistOf) → IsBuilt N → IsMappedAnswer N N Yes
