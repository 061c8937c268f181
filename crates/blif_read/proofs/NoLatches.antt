-- A source that isn't refused has no latches.
use Rattle.std.proofs.Common.{◌≡◌, List, [], ◌∷◌, ◌++◌, length, map, refl, ap, sym, subst, ◌∙◌, Bool, true, false, if◌then◌else◌, None, Some}
use Rattle.tsc_net.specs.NetlistOf.{NetlistOf, netlist_of}
use Rattle.tsc_text.specs.TextLine.{TextLine}
use Rattle.blif_read.specs.LineKind.{kind_of}
use Rattle.blif_read.specs.NamedText.{latches_at, latches_of, named_text}
use Rattle.blif_read.specs.Seen.{seen_of, seen_behind}
use Rattle.blif_read.specs.Faults.{fault_of, has_latch_shape, latch_fault}
use Rattle.blif_read.specs.FirstFault.{first_fault, first_fault_after}
use Rattle.blif_read.specs.Denotes.{refusal}
use Rattle.blif_read.specs.declared.cause.Cause.TheVariants.{LatchInSource, WordCount}
use Rattle.blif_read.specs.declared.kinds.Kind.TheVariants.{Source}
use Rattle.blif_read.specs.declared.kinds.LineKind.{LineKind}
use Rattle.blif_read.specs.declared.kinds.LineKind.TheVariants.{PlanLine, Model, Inputs, Outputs, Names, Latch, OtherDirective, Row}
use Rattle.blif_read.specs.declared.seen.Seen.{Seen}
use Rattle.blif_read.proofs.Scanned.{first_fault_is}
use Rattle.blif_read.proofs.CleanLines.{no_fault_here, no_fault_later}
use Rattle.blif_read.proofs.NotRefused.{no_line_fault}

-- a line of `.latch` in a source has a fault
no_latch : (seen : Seen) (line : TextLine) → latch_fault Source seen line ≡ None → latches_at Latch line ≡ []
no_latch seen line e = by (has_latch_shape line) e
  where
    by : (b : Bool) → (if b then Some LatchInSource else Some WordCount) ≡ None → latches_at Latch line ≡ []
    by true e = cc
    by false e = cc

no_latch_at : (seen : Seen) (kind : LineKind) (line : TextLine) → fault_of Source seen kind line ≡ None → latches_at kind line ≡ []
no_latch_at seen Latch line e = no_latch seen line e
no_latch_at seen PlanLine line e = refl
no_latch_at seen Model line e = refl
no_latch_at seen Inputs line e = refl
no_latch_at seen Outputs line e = refl
no_latch_at seen Names line e = refl
no_latch_at seen OtherDirective line e = refl
no_latch_at seen Row line e = refl

no_latches_after : (lines : List TextLine) (seen : Seen) → first_fault_after Source seen lines ≡ None → latches_of lines ≡ []
no_latches_after [] seen e = refl
no_latches_after (line ∷ lines) seen e =
    let after = seen_behind seen (kind_of line) line in
    let here = no_fault_here (fault_of Source seen (kind_of line) line) line (first_fault_after Source after lines) e in
    let later = no_fault_later (fault_of Source seen (kind_of line) line) line (first_fault_after Source after lines) e in
    ap (λ l. l ++ latches_of lines) (no_latch_at seen (kind_of line) line here) ∙ no_latches_after lines after later

-- lines of a source without a fault have no latch
pub no_latches : (lines : List TextLine) → first_fault Source lines ≡ None → latches_of lines ≡ []
no_latches lines e = no_latches_after lines (seen_of []) (sym (first_fault_is Source [] lines) ∙ e)

mapped_none : {A B : Type 0} (f : A → B) (list : List A) → list ≡ [] → length (map f list) ≡ 0
mapped_none f [] e = refl
mapped_none f (a ∷ list) e = cc

-- a source that isn't refused denotes a netlist without latches
pub source_has_no_latches : (lines : List TextLine) (net : NetlistOf)
    → net ≡ netlist_of (named_text lines) → refusal Source lines ≡ None → length net.circuit.latches ≡ 0
source_has_no_latches lines net is sound =
    let P : NetlistOf → Type 0 = λ n. length n.circuit.latches ≡ 0 in
    subst P (sym is) (mapped_none _ (latches_of lines) (no_latches lines (no_line_fault Source lines sound)))
