-- What is refused of a text as netlists one after another: the first refusal, in order.
use Rattle.std.specs.Prelude.{Bool, true, false, List, [], ◌∷◌, length, nat_lt, Option, None, Some}
use Rattle.tsc_text.specs.TextLine.{TextLine}
use Rattle.blif_read.specs.Clocks.{clock_text}
use Rattle.blif_read.specs.Denotes.{refusal}
use Rattle.blif_read.specs.RegisterFault.{clock_refusal}
use Rattle.blif_read.specs.declared.clocks.Clock.{Clock}
use Rattle.blif_read.specs.declared.error.BlifError.{BlifError}
use Rattle.blif_read.specs.declared.kinds.Kind.TheVariants.{AnyPlan}
use Rattle.refusals.specs.declared.limit.Limit.TheVariants.{Parts}
use Rattle.refusals.specs.declared.text_refusal.TextRefusal.{TextRefusal}
use Rattle.refusals.specs.declared.text_refusal.TextRefusal.TheVariants.{TooMany}
use Rattle.module_join.specs.JointNet.{clock_or}
use Rattle.text_sections.specs.Refused.{first_of, section_refusal}
use Rattle.part_reading.specs.PartClocks.{clock_line}
use Rattle.part_reading.specs.Parts.{sections_of}

-- there are more than 64
abbrev pub has_too_many_parts : List TextLine → Bool
has_too_many_parts lines = nat_lt 64 (length (sections_of lines))

-- more netlists than are read
abbrev pub count_refusal : Bool → Option TextRefusal
count_refusal true = Some (TooMany Parts)
count_refusal false = None

-- the clock of a section, after a clock seen in earlier ones
abbrev pub part_clock_refusal : Option Clock → List TextLine → Option BlifError
part_clock_refusal seen lines = clock_refusal (clock_line seen lines)

-- a section as a netlist whose plan may list no states, and then its clock
abbrev pub part_refusal : Option Clock → List TextLine → Option TextRefusal
part_refusal seen lines = first_of (section_refusal AnyPlan (refusal AnyPlan lines)) (section_refusal AnyPlan (part_clock_refusal seen lines))

-- sections, each as such a netlist, in order, after a clock seen in earlier ones
abbrev pub sections_refusal : Option Clock → List (List TextLine) → Option TextRefusal
sections_refusal seen [] = None
sections_refusal seen (section ∷ sections) = first_of (part_refusal seen section) (sections_refusal (clock_or seen (clock_text AnyPlan section)) sections)

-- the lines of a text as netlists: how many there are, then each of them
abbrev pub parts_refusal : List TextLine → Option TextRefusal
parts_refusal lines = first_of (count_refusal (has_too_many_parts lines)) (sections_refusal None (sections_of lines))
