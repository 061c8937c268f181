-- The first fault by what was seen, in place of the lines before.
use Rattle.std.proofs.Common.{◌≡◌, ℕ, ◌+◌, ◌-◌, ◌<◌, ◌≤◌, Bool, true, false, List, [], ◌∷◌, length, arith, refl, ap, subst, None, Some, sym, if◌then◌else◌, length-drop, drop}
use Rattle.tsc_text.specs.TextLine.{TextLine, no_line, the_line, the_word}
use Rattle.blif_read.specs.LineKind.{kind_of, names_of}
use Rattle.blif_read.specs.Seen.{seen_of, seen_behind}
use Rattle.blif_read.specs.Faults.{fault_of, fault_behind, limit, limit_in, most_outputs, latch_fault, latch_limit, has_any_init, has_init, has_latch_shape, most_latches, shaped_latch_fault, is_long, IsWithin}
use Rattle.blif_read.specs.FirstFault.{fault_or, first_fault_behind, first_fault_after}
use Rattle.blif_read.specs.declared.kinds.Kind.{Kind}
use Rattle.blif_read.specs.declared.kinds.Kind.TheVariants.{Source, Registers, Netlist, AnyPlan, Unplanned}
use Rattle.blif_read.specs.declared.kinds.LineKind.{LineKind}
use Rattle.blif_read.specs.declared.kinds.LineKind.TheVariants.{Inputs, Outputs, Latch}
use Rattle.blif_read.specs.declared.cause.Cause.{Cause}
use Rattle.blif_read.specs.declared.cause.Cause.TheVariants.{WordCount, LatchInit}
use Rattle.tsc_text.specs.declared.which.Which.TheVariants.{NameBytes, Inputs as InputCount, Outputs as OutputCount, Latches as LatchCount}
use Rattle.blif_read.specs.declared.seen.Seen.{Seen}
use Rattle.std.proofs.lemmas.List.{drop_all, drop_more}
use Rattle.blif_read.proofs.NameLimits.{limit_in_fits, limit_none}

-- the first fault of lines after others is the first by what was seen in those others
pub first_fault_is : (kind : Kind) (back lines : List TextLine)
    → first_fault_behind kind back lines ≡ first_fault_after kind (seen_of back) lines
first_fault_is kind back [] = refl
first_fault_is kind back (line ∷ lines) =
    ap (λ later. fault_or (fault_behind kind back line) line later) (first_fault_is kind (line ∷ back) lines)

-- one line after the other
pub fault_here : (kind : Kind) (seen : Seen) (here rest : List TextLine) (line : TextLine) (number : ℕ) (cause : Cause) → here ≡ line ∷ rest
    → Some cause ≡ fault_of kind seen (kind_of line) line → number ≡ line.number → first_fault_after kind seen here ≡ Some (record { line = number; cause = cause })
fault_here kind seen here rest line number cause is e f = rw (is, sym e, f) refl

pub fault_later : (kind : Kind) (seen : Seen) (lines : List TextLine) (at : ℕ) → at < length lines
    → None ≡ fault_of kind seen (kind_of (the_line lines at)) (the_line lines at)
    → first_fault_after kind seen (drop at lines)
    ≡ first_fault_after kind (seen_behind seen (kind_of (the_line lines at)) (the_line lines at)) (drop (at + 1) lines)
fault_later kind seen lines at h e = rw (drop_more lines at no_line h, sym e) refl

pub fault_end : (kind : Kind) (seen : Seen) (lines : List TextLine) (at : ℕ) → length lines ≤ at
    → first_fault_after kind seen (drop at lines) ≡ None
fault_end kind seen lines at h = rw (drop_all at lines h) refl

-- lines without a fault keep the counts
pub inputs_fit : (kind : Kind) (seen : Seen) (k : LineKind) (line : TextLine) → Inputs ≡ k → fault_of kind seen k line ≡ None → IsWithin kind seen
    → seen.inputs + (length line.words - 1) ≤ 1024
inputs_fit kind seen k line e f within =
    let g : fault_of kind seen Inputs line ≡ None = subst (λ k. fault_of kind seen k line ≡ None) (sym e) f in
    let n : limit_in InputCount 1024 seen.inputs (names_of line) ≡ None = limit_none _ g in
    let m : seen.inputs + length (drop 1 line.words) ≤ 1024 = limit_in_fits InputCount 1024 seen.inputs 1024 (names_of line) (omega arith) within.inputs n in
    omega (arith, m, length-drop 1 line.words)

pub outputs_fit : (kind : Kind) (seen : Seen) (k : LineKind) (line : TextLine) → Outputs ≡ k → fault_of kind seen k line ≡ None → IsWithin kind seen
    → seen.outputs + (length line.words - 1) ≤ 66
outputs_fit kind seen k line e f within =
    let g : fault_of kind seen Outputs line ≡ None = subst (λ k. fault_of kind seen k line ≡ None) (sym e) f in
    let n : limit_in OutputCount (most_outputs kind) seen.outputs (names_of line) ≡ None = limit_none _ g in
    let m : seen.outputs + length (drop 1 line.words) ≤ 66 = limit_in_fits OutputCount (most_outputs kind) seen.outputs 66 (names_of line) (most kind) within.outputs n in
    omega (arith, m, length-drop 1 line.words)
  where
    most : (kind : Kind) → most_outputs kind ≤ 66
    most Source = omega arith
    most Registers = omega arith
    most Netlist = omega arith
    most AnyPlan = omega arith
    most Unplanned = omega arith

-- the name that a latch without a fault gives passes no limit
pub latch_out_limit : (kind : Kind) (seen : Seen) (line : TextLine) → latch_fault kind seen line ≡ None
    → limit_in LatchCount (most_latches kind) seen.latches (the_word line 2 ∷ []) ≡ None
latch_out_limit kind seen line e = by kind (has_latch_shape line) e
  where
    counted : (kind : Kind) (b : Bool) → (if b then Some NameBytes else limit_in LatchCount (most_latches kind) seen.latches (the_word line 2 ∷ [])) ≡ None
        → limit_in LatchCount (most_latches kind) seen.latches (the_word line 2 ∷ []) ≡ None
    counted kind true e = cc
    counted kind false e = e

    init : (kind : Kind) (c : Bool) → (if c then limit (latch_limit kind seen line) else Some LatchInit) ≡ None
        → limit_in LatchCount (most_latches kind) seen.latches (the_word line 2 ∷ []) ≡ None
    init kind false e = cc
    init kind true e = counted kind (is_long (the_word line 1)) (limit_none (latch_limit kind seen line) e)

    by : (kind : Kind) (b : Bool) → (if b then shaped_latch_fault kind seen line else Some WordCount) ≡ None
        → limit_in LatchCount (most_latches kind) seen.latches (the_word line 2 ∷ []) ≡ None
    by kind false e = cc
    by Source true e = cc
    by Registers true e = init Registers (has_any_init line) e
    by Netlist true e = init Netlist (has_init line) e
    by AnyPlan true e = init AnyPlan (has_init line) e
    by Unplanned true e = init Unplanned (has_init line) e

pub latches_fit : (kind : Kind) (seen : Seen) (k : LineKind) (line : TextLine) → Latch ≡ k → fault_of kind seen k line ≡ None → IsWithin kind seen
    → seen.latches + 1 ≤ most_latches kind
latches_fit kind seen k line e f within =
    let g : fault_of kind seen Latch line ≡ None = subst (λ k. fault_of kind seen k line ≡ None) (sym e) f in
    limit_in_fits LatchCount (most_latches kind) seen.latches (most_latches kind) (the_word line 2 ∷ []) (omega arith) within.latches (latch_out_limit kind seen line g)
