-- The plan lines of a netlist's section without a fault.
use Rattle.std.proofs.Common.{◌≡◌, ℕ, ◌≤◌, Bool, true, false, ◌&&◌, ◌==◌, nat_le, List, [], ◌∷◌, length, arith, refl, sym, ◌∙◌, Option, Some, None, if◌then◌else◌}
use Rattle.std.proofs.lemmas.Grind.{common_steps}
use Rattle.tsc_net.specs.NetFault.{fault_of as net_fault}
use Rattle.tsc_text.specs.TextLine.{TextLine, the_word}
use Rattle.blif_read.specs.LineKind.{kind_of, kind_of_word}
use Rattle.blif_read.specs.NamedText.{named_text}
use Rattle.blif_read.specs.Seen.{seen_of, seen_behind}
use Rattle.blif_read.specs.Faults.{fault_of, plan_line_fault}
use Rattle.blif_read.specs.FirstFault.{first_fault, first_fault_after}
use Rattle.blif_read.specs.PlanLines.{plan_kind, has_any_shape, has_plan_shape, is_bits}
use Rattle.blif_read.specs.PlanText.{kind_in_plan}
use Rattle.blif_read.specs.Planned.{IsPlannedAt, ArePlanned}
use Rattle.blif_read.specs.Refusal.{first_refusal, refusal_of_line, refusal_of_net, netlist_refusal}
use Rattle.blif_read.specs.declared.kinds.Kind.{Kind}
use Rattle.blif_read.specs.declared.kinds.Kind.TheVariants.{Netlist, AnyPlan}
use Rattle.blif_read.specs.declared.kinds.LineKind.TheVariants.{PlanLine}
use Rattle.blif_read.specs.declared.cause.Cause.TheVariants.{PlanShape}
use Rattle.blif_read.specs.declared.cause.LineFault.{LineFault}
use Rattle.blif_read.specs.declared.plan_lines.PlanKind.{PlanKind}
use Rattle.blif_read.specs.declared.plan_lines.PlanKind.TheVariants.{CodeLine, GroupLine, CheckLine, StateLine, WatchLine, OtherLine}
use Rattle.blif_read.specs.declared.seen.Seen.{Seen}
use Rattle.blif_read.proofs.Scanned.{first_fault_is}
use Rattle.blif_read.proofs.CleanLines.{no_fault_here, no_fault_later}
use Rattle.blif_read.proofs.RowWalk.{and_right}

shaped : (k : PlanKind) (has_plan : Bool) (line : TextLine) → has_plan_shape k has_plan line ≡ true → IsPlannedAt k line
shaped GroupLine has_plan line e =
    let m : nat_le 3 (length line.words) ≡ true = and_right has_plan (nat_le 3 (length line.words)) e in
    least (length line.words) m
  where
    least : (n : ℕ) → nat_le 3 n ≡ true → 3 ≤ n
    least n m = grind (arith, common_steps)
shaped StateLine has_plan line e =
    and_right (length line.words == 2) (is_bits (the_word line 1)) (and_right has_plan (length line.words == 2 && is_bits (the_word line 1)) e)
shaped CodeLine has_plan line e = tt
shaped CheckLine has_plan line e = tt
shaped WatchLine has_plan line e = tt
shaped OtherLine has_plan line e = tt

any_shaped : (k : PlanKind) (has_plan : Bool) (line : TextLine) → has_any_shape k has_plan line ≡ true → IsPlannedAt k line
any_shaped GroupLine has_plan line e = shaped GroupLine has_plan line e
any_shaped StateLine has_plan line e = shaped StateLine has_plan line e
any_shaped CodeLine has_plan line e = tt
any_shaped CheckLine has_plan line e = tt
any_shaped WatchLine has_plan line e = tt
any_shaped OtherLine has_plan line e = tt

has_shape : (b : Bool) → (if b then None else Some PlanShape) ≡ None → b ≡ true
has_shape true e = refl
has_shape false e = cc

-- a plan line without a fault has its words
abbrev Shapes : Kind → Type 0
Shapes kind = (seen : Seen) (line : TextLine) → plan_line_fault kind seen line ≡ None → IsPlannedAt (plan_kind (the_word line 0)) line

listed_shapes : Shapes Netlist
listed_shapes seen line e =
    shaped (plan_kind (the_word line 0)) seen.has_plan line (has_shape (has_plan_shape (plan_kind (the_word line 0)) seen.has_plan line) e)

any_shapes : Shapes AnyPlan
any_shapes seen line e =
    any_shaped (plan_kind (the_word line 0)) seen.has_plan line (has_shape (has_any_shape (plan_kind (the_word line 0)) seen.has_plan line) e)

module _ (kind : Kind) (shapes : Shapes kind) where
  planned_line : (seen : Seen) (line : TextLine) → fault_of kind seen (kind_of line) line ≡ None → IsPlannedAt (kind_in_plan line) line
  planned_line seen line e = by line.is_plan e
    where
      by : (b : Bool) → fault_of kind seen (if b then PlanLine else kind_of_word (the_word line 0)) line ≡ None
          → IsPlannedAt (if b then plan_kind (the_word line 0) else OtherLine) line
      by true e = shapes seen line e
      by false e = tt

  planned_after : (lines : List TextLine) (seen : Seen) → first_fault_after kind seen lines ≡ None → ArePlanned lines
  planned_after [] seen e = tt
  planned_after (line ∷ lines) seen e =
      let after = seen_behind seen (kind_of line) line in
      let later = first_fault_after kind after lines in (
        planned_line seen line (no_fault_here (fault_of kind seen (kind_of line) line) line later e),
        planned_after lines after (no_fault_later (fault_of kind seen (kind_of line) line) line later e),
      )

  planned_first : (lines : List TextLine) → first_fault kind lines ≡ None → ArePlanned lines
  planned_first lines e = planned_after lines (seen_of []) (sym (first_fault_is kind [] lines) ∙ e)

no_fault : (lines : List TextLine) (f : Option LineFault) → first_refusal (refusal_of_line f) (refusal_of_net (net_fault (named_text lines))) ≡ None → f ≡ None
no_fault lines None e = refl
no_fault lines (Some f) e = cc

-- where neither a line nor the netlist is refused, each group has an output and each state only bits
pub planned_section : (lines : List TextLine) → netlist_refusal Netlist lines ≡ None → ArePlanned lines
planned_section lines e = planned_first Netlist listed_shapes lines (no_fault lines (first_fault Netlist lines) e)

-- the same of a netlist whose plan may list no states
pub any_planned_section : (lines : List TextLine) → netlist_refusal AnyPlan lines ≡ None → ArePlanned lines
any_planned_section lines e = planned_first AnyPlan any_shapes lines (no_fault lines (first_fault AnyPlan lines) e)
