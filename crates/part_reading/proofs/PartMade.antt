-- What was read of a section is a part, and what is refused of it.
use Rattle.std.proofs.Common.{◌≡◌, ℕ, List, Option, None, ap}
use Rattle.tsc_text.specs.TextLine.{TextLine}
use Rattle.fault_secure.specs.CodePlan.{IsPlanOf}
use Rattle.tsc_net.specs.NetlistOf.{IsBuilt}
use Rattle.blif_read.specs.Denotes.{plan_circuit, refusal}
use Rattle.blif_read.specs.RegisterFault.{clock_refusal}
use Rattle.blif_read.specs.declared.clocks.Clock.{Clock}
use Rattle.blif_read.specs.declared.kinds.Kind.TheVariants.{AnyPlan}
use Rattle.module_join.specs.declared.part.Part.{Part}
use Rattle.text_sections.specs.Denoted.{lines_from, section_from}
use Rattle.text_sections.specs.Refused.{refusal_from, section_refusal}
use Rattle.text_sections.proofs.SectionLemmas.{allowed_both, first_allowed}
use Rattle.part_reading.specs.PartClocks.{clock_line}
use Rattle.part_reading.specs.PartRefusal.{part_clock_refusal, part_refusal}
use Rattle.part_reading.specs.Parts.{IsPartOf, planned_of}

-- what the section from a place on denotes is a part of the lines
pub part_here : (lines : List TextLine) (from : ℕ) (part : Part) → part ≡ planned_of (lines_from lines from) → IsBuilt part.net
    → IsPlanOf (plan_circuit AnyPlan (lines_from lines from) part.net) part.plan → refusal_from AnyPlan lines from ≡ None → IsPartOf lines part
part_here lines from part is built of_net allowed = record {
  built = built;
  section = section_from lines from;
  allowed = first_allowed AnyPlan lines from allowed;
  denoted = ap (λ (p : Part). p.net) is;
  plan = of_net;
  clocked = ap (λ (p : Part). p.clock) is;
}

-- a section that nothing refuses, and its clock neither, is allowed as a part
pub part_allowed : (seen : Option Clock) (lines : List TextLine) → section_refusal AnyPlan (refusal AnyPlan lines) ≡ None → clock_line seen lines ≡ None
    → part_refusal seen lines ≡ None
part_allowed seen lines allowed none =
    allowed_both (section_refusal AnyPlan (refusal AnyPlan lines)) (section_refusal AnyPlan (part_clock_refusal seen lines)) allowed
    (ap (λ line. section_refusal AnyPlan (clock_refusal line)) none)
