-- A section that nothing refuses as a netlist with its plan is refused by nothing where its plan lines are passed over.
use Rattle.std.proofs.Common.{◌≡◌, List, [], ◌∷◌, Option, None, Some, refl, ap, ◌∙◌}
use Rattle.tsc_text.specs.TextLine.{TextLine}
use Rattle.tsc_net.specs.NetFault.{fault_of as net_fault}
use Rattle.blif_read.specs.Faults.{fault_behind, fault_of}
use Rattle.blif_read.specs.FirstFault.{fault_or, first_fault_behind}
use Rattle.blif_read.specs.LineKind.{kind_of}
use Rattle.blif_read.specs.NamedText.{named_text}
use Rattle.blif_read.specs.Refusal.{first_refusal, refusal_of_line, refusal_of_net}
use Rattle.blif_read.specs.Seen.{seen_of}
use Rattle.blif_read.specs.declared.cause.Cause.{Cause}
use Rattle.blif_read.specs.declared.cause.LineFault.{LineFault}
use Rattle.blif_read.specs.declared.kinds.Kind.TheVariants.{Netlist, Unplanned}
use Rattle.blif_read.specs.declared.kinds.LineKind.{LineKind}
use Rattle.blif_read.specs.declared.kinds.LineKind.TheVariants.{PlanLine, Model, Inputs, Outputs, Names, Latch, OtherDirective, Row}
use Rattle.blif_read.specs.declared.seen.Seen.{Seen}
use Rattle.blif_read.proofs.NotRefused.{no_line_fault, no_net_fault}
use Rattle.text_sections.proofs.AnyPlans.{any_latch}
use Rattle.mapped_laws.specs.MappedLaws.{PlanLinesMayBePassedOver}

-- line by line
no_fault_here : (seen : Seen) (kind : LineKind) (line : TextLine) → fault_of Netlist seen kind line ≡ None → fault_of Unplanned seen kind line ≡ None
no_fault_here seen PlanLine line e = refl
no_fault_here seen Model line e = e
no_fault_here seen Inputs line e = e
no_fault_here seen Outputs line e = e
no_fault_here seen Names line e = e
no_fault_here seen Latch line e = any_latch seen line e
no_fault_here seen OtherDirective line e = e
no_fault_here seen Row line e = e

none_of_two : (cause : Option Cause) (line : TextLine) (later : Option LineFault) → fault_or cause line later ≡ None → (cause ≡ None) × (later ≡ None)
none_of_two None line later e = (refl, e)
none_of_two (Some cause) line later e = cc

no_fault_behind : (back lines : List TextLine) → first_fault_behind Netlist back lines ≡ None → first_fault_behind Unplanned back lines ≡ None
no_fault_behind back [] e = refl
no_fault_behind back (line ∷ lines) e =
    let both = none_of_two (fault_behind Netlist back line) line (first_fault_behind Netlist (line ∷ back) lines) e in
    ap (λ cause. fault_or cause line (first_fault_behind Unplanned (line ∷ back) lines)) (no_fault_here (seen_of back) (kind_of line) line both.0)
    ∙ no_fault_behind (line ∷ back) lines both.1

-- a section that nothing refuses with its plan is refused by nothing where its plan lines are passed over
pub plan_lines_may_be_passed_over : PlanLinesMayBePassedOver
plan_lines_may_be_passed_over lines e =
    ap (λ fault. first_refusal (first_refusal (refusal_of_line fault) (refusal_of_net (net_fault (named_text lines)))) None)
    (no_fault_behind [] lines (no_line_fault Netlist lines e))
    ∙ ap (λ fault. first_refusal (refusal_of_net fault) None) (no_net_fault Netlist lines e)
