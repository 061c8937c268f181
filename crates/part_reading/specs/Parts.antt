-- A text as netlists one after another, each up to its end line; a further one begins wherever a line, a plan line too, is left behind
-- one. What they denote.
use Rattle.std.specs.Prelude.{◌≡◌, Bool, true, false, List, [], ◌∷◌, map, None}
use Rattle.std.specs.Option.{unwrap_or}
use Rattle.tsc_text.specs.TextLine.{TextLine}
use Rattle.tsc_text.specs.Section.{is_end_line, section_lines}
use Rattle.tsc_text.specs.declared.section.Section.{Section}
use Rattle.tsc_text.specs.declared.section.End.TheVariants.{Blif as BlifEnd}
use Rattle.fault_secure.specs.CodePlan.{IsPlanOf}
use Rattle.tsc_net.specs.NetlistOf.{IsBuilt, netlist_of}
use Rattle.blif_read.specs.Clocks.{clock_text}
use Rattle.blif_read.specs.Denotes.{plan_circuit, plan_text, refusal}
use Rattle.blif_read.specs.NamedText.{named_text}
use Rattle.blif_read.specs.declared.kinds.Kind.TheVariants.{AnyPlan}
use Rattle.module_join.specs.declared.part.Part.{Part}
use Rattle.text_sections.specs.Denoted.{no_plan}

-- sections with a line before them: an end line is an empty section of its own, another line is the first one of the first section
abbrev pub with_line : Bool → TextLine → List (List TextLine) → List (List TextLine)
with_line true line sections = [] ∷ sections
with_line false line [] = (line ∷ []) ∷ []
with_line false line (section ∷ sections) = (line ∷ section) ∷ sections

-- the sections of lines, each without its end line
abbrev pub sections_behind : List TextLine → List (List TextLine)
sections_behind [] = []
sections_behind (line ∷ lines) = with_line (is_end_line BlifEnd line) line (sections_behind lines)

-- those of the lines of a text: where there is no line, one without lines
abbrev pub sections_of : List TextLine → List (List TextLine)
sections_of [] = [] ∷ []
sections_of (line ∷ lines) = sections_behind (line ∷ lines)

-- the netlist that the lines of a section denote, with its plan, which may list no states, and the clock of its registers
abbrev pub planned_of : List TextLine → Part
planned_of lines =
    let net = netlist_of (named_text lines) in
    record { net = net; plan = unwrap_or (plan_text AnyPlan lines net) no_plan; clock = clock_text AnyPlan lines }

-- those that the lines of a text denote
abbrev pub parts_of : List TextLine → List Part
parts_of lines = map planned_of (sections_of lines)

-- a netlist that was built, with its plan and its clock: a section of the lines denotes them, of which nothing is refused. Where the plan lists
-- no states, it is one of the netlist with its registers as further inputs
pub record IsPartOf (lines : List TextLine) (part : Part) : Type 0 where
  pub built : IsBuilt part.net
  pub section : Section
  pub allowed : refusal AnyPlan (section_lines lines section) ≡ None
  pub denoted : part.net ≡ netlist_of (named_text (section_lines lines section))
  pub plan : IsPlanOf (plan_circuit AnyPlan (section_lines lines section) part.net) part.plan
  pub clocked : part.clock ≡ clock_text AnyPlan (section_lines lines section)
