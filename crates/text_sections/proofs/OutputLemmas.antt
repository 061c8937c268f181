-- A text that is not refused keeps the limit on its outputs.
use Rattle.std.proofs.Common.{◌≡◌, ℕ, ◌+◌, ◌≤◌, List, [], ◌∷◌, length, drop, sym, subst, ◌∙◌, arith, None, length-drop, length-append}
use Rattle.tsc_net.specs.NetlistOf.{NetlistOf, netlist_of}
use Rattle.tsc_text.specs.TextLine.{TextLine}
use Rattle.blif_read.specs.LineKind.{kind_of, names_of}
use Rattle.blif_read.specs.NamedText.{named_text, output_names, outputs_of}
use Rattle.blif_read.specs.Seen.{seen_behind, seen_of}
use Rattle.blif_read.specs.Faults.{fault_of, most_outputs}
use Rattle.blif_read.specs.FirstFault.{first_fault_after}
use Rattle.blif_read.specs.Denotes.{refusal}
use Rattle.tsc_text.specs.declared.which.Which.TheVariants.{Outputs as OutputCount}
use Rattle.blif_read.specs.declared.kinds.Kind.{Kind}
use Rattle.blif_read.specs.declared.kinds.LineKind.{LineKind}
use Rattle.blif_read.specs.declared.kinds.LineKind.TheVariants.{PlanLine, Model, Inputs, Outputs, Names, Latch, OtherDirective, Row}
use Rattle.blif_read.specs.declared.seen.Seen.{Seen}
use Rattle.blif_read.proofs.CleanLines.{no_fault_here, no_fault_later}
use Rattle.blif_read.proofs.Counts.{few_mapped}
use Rattle.blif_read.proofs.NotRefused.{no_line_fault}
use Rattle.blif_read.proofs.NameLimits.{limit_in_fits, limit_none}
use Rattle.blif_read.proofs.Scanned.{first_fault_is}

-- a line without a fault keeps the count of outputs
outputs_fit : (kind : Kind) (seen : Seen) (line : TextLine) → fault_of kind seen Outputs line ≡ None → seen.outputs ≤ most_outputs kind → seen.outputs + length (drop 1 line.words) ≤ most_outputs kind
outputs_fit kind seen line e within = limit_in_fits OutputCount (most_outputs kind) seen.outputs (most_outputs kind) (names_of line) (omega arith) within (limit_none _ e)

within_behind : (of : Kind) (seen : Seen) (kind : LineKind) (line : TextLine) → fault_of of seen kind line ≡ None → seen.outputs ≤ most_outputs of → (seen_behind seen kind line).outputs ≤ most_outputs of
within_behind of seen Outputs line e w = omega (arith, outputs_fit of seen line e w, length-drop 1 line.words)
within_behind of seen PlanLine line e w = omega (arith, w)
within_behind of seen Model line e w = omega (arith, w)
within_behind of seen Inputs line e w = omega (arith, w)
within_behind of seen Names line e w = omega (arith, w)
within_behind of seen Latch line e w = omega (arith, w)
within_behind of seen OtherDirective line e w = omega (arith, w)
within_behind of seen Row line e w = omega (arith, w)

-- one line more
few_more : (most : ℕ) (seen : Seen) (kind : LineKind) (line : TextLine) (outputs : ℕ) → (seen_behind seen kind line).outputs + outputs ≤ most → seen.outputs + (length (output_names kind line) + outputs) ≤ most
few_more most seen Outputs line outputs o = omega (arith, o, length-drop 1 line.words)
few_more most seen PlanLine line outputs o = omega (arith, o)
few_more most seen Model line outputs o = omega (arith, o)
few_more most seen Inputs line outputs o = omega (arith, o)
few_more most seen Names line outputs o = omega (arith, o)
few_more most seen Latch line outputs o = omega (arith, o)
few_more most seen OtherDirective line outputs o = omega (arith, o)
few_more most seen Row line outputs o = omega (arith, o)

few_after : (kind : Kind) (lines : List TextLine) (seen : Seen) → seen.outputs ≤ most_outputs kind → first_fault_after kind seen lines ≡ None → seen.outputs + length (outputs_of lines) ≤ most_outputs kind
few_after kind [] seen w e = omega (arith, w)
few_after kind (line ∷ lines) seen w e =
    let after = seen_behind seen (kind_of line) line in
    let here = no_fault_here (fault_of kind seen (kind_of line) line) line (first_fault_after kind after lines) e in
    let later = no_fault_later (fault_of kind seen (kind_of line) line) line (first_fault_after kind after lines) e in
    let rest : after.outputs + length (outputs_of lines) ≤ most_outputs kind = few_after kind lines after (within_behind kind seen (kind_of line) line here w) later in
    omega (arith, few_more (most_outputs kind) seen (kind_of line) line (length (outputs_of lines)) rest, length-append (output_names (kind_of line) line) (outputs_of lines))

few : (kind : Kind) (lines : List TextLine) → refusal kind lines ≡ None → length (outputs_of lines) ≤ most_outputs kind
few kind lines e =
    let all : (seen_of []).outputs + length (outputs_of lines) ≤ most_outputs kind
    = few_after kind lines (seen_of []) (omega arith) (sym (first_fault_is kind [] lines) ∙ no_line_fault kind lines e) in
    omega (arith, all)

-- it has at most as many outputs as its kind may have
pub few_outputs : (kind : Kind) (lines : List TextLine) (net : NetlistOf) → net ≡ netlist_of (named_text lines) → refusal kind lines ≡ None → length net.circuit.outputs ≤ most_outputs kind
few_outputs kind lines net is sound =
    let P : NetlistOf → Type 0 = λ n. length n.circuit.outputs ≤ most_outputs kind in
    subst P (sym is) (few_mapped _ (outputs_of lines) (most_outputs kind) (few kind lines sound))
