-- Lines without a fault are clean.
use Rattle.std.proofs.Common.{◌≡◌, ◌+◌, ◌-◌, ◌<◌, ◌≤◌, Bool, true, false, ◌&&◌, ◌==◌, List, [], ◌∷◌, length, arith, refl, ap, subst, Option, None, Some, if◌then◌else◌, nat_le}
use Rattle.std.proofs.lemmas.Grind.{common_steps}
use Rattle.tsc_text.specs.TextLine.{TextLine}
use Rattle.blif_read.specs.LineKind.{kind_of, name_count, pins_of, net_of, width_of}
use Rattle.blif_read.specs.Rows.{has_row_shape, output_of, rows_at, rows_of}
use Rattle.blif_read.specs.Seen.{seen_behind, with_row, first_output}
use Rattle.blif_read.specs.Faults.{fault_of, first_of, limit, limit_in, most_nodes, names_fault, latch_fault, has_latch_shape, is_mixed, row_fault, shaped_latch_fault}
use Rattle.blif_read.specs.FirstFault.{fault_or, first_fault_after}
use Rattle.blif_read.specs.Clean.{AreShaped, IsCleanAt, AreClean}
use Rattle.blif_read.specs.declared.kinds.Kind.{Kind}
use Rattle.blif_read.specs.declared.kinds.LineKind.{LineKind}
use Rattle.blif_read.specs.declared.kinds.LineKind.TheVariants.{PlanLine, Model, Inputs, Outputs, Names, Latch, OtherDirective, Row}
use Rattle.blif_read.specs.declared.cause.Cause.{Cause}
use Rattle.blif_read.specs.declared.cause.Cause.TheVariants.{WordCount, RowShape, Mixed}
use Rattle.blif_read.specs.declared.cause.LineFault.{LineFault}
use Rattle.tsc_text.specs.declared.which.Which.{Which}
use Rattle.tsc_text.specs.declared.which.Which.TheVariants.{Pins as PinCount, Nodes as NodeCount}
use Rattle.blif_read.specs.declared.seen.OpenCover.{OpenCover}
use Rattle.blif_read.specs.declared.seen.Seen.{Seen}
use Rattle.blif_read.proofs.NameLimits.{limit_in_fits}
use Rattle.blif_read.proofs.RowWalk.{and_left}
use Rattle.tsc_text.proofs.Stored.{length-slice_range}

-- where the first fault from a line on is none, that line has none
pub no_fault_here : (x : Option Cause) (line : TextLine) (later : Option LineFault) → fault_or x line later ≡ None → x ≡ None
no_fault_here None line later e = refl
no_fault_here (Some cause) line later e = cc

-- where the first fault from a line on is none, the later lines have none
pub no_fault_later : (x : Option Cause) (line : TextLine) (later : Option LineFault) → fault_or x line later ≡ None → later ≡ None
no_fault_later None line later e = e
no_fault_later (Some cause) line later e = cc

-- a row without a fault has its shape
shape_of_row : (cover : OpenCover) (line : TextLine) → row_fault (Some cover) line ≡ None → has_row_shape cover.width line.words ≡ true
shape_of_row cover line e = by (has_row_shape cover.width line.words) e
  where
    by : (b : Bool) → (if b then (if is_mixed cover.first (output_of line) then Some Mixed else None) else Some RowShape) ≡ None → b ≡ true
    by true e = refl
    by false e = cc

pub rows_are_shaped : (kind : Kind) (lines : List TextLine) (seen : Seen) (cover : OpenCover) → seen.cover ≡ Some cover
    → first_fault_after kind seen lines ≡ None → AreShaped cover.width (rows_of lines)
rows_are_shaped kind [] seen cover e f = tt
rows_are_shaped kind (line ∷ lines) seen cover e f =
    by (kind_of line)
    (no_fault_here (fault_of kind seen (kind_of line) line) line (first_fault_after kind (seen_behind seen (kind_of line) line) lines) f)
    (no_fault_later (fault_of kind seen (kind_of line) line) line (first_fault_after kind (seen_behind seen (kind_of line) line) lines) f)
    (λ next open_cover. rows_are_shaped kind lines next open_cover)
  where
    by : (k : LineKind) → fault_of kind seen k line ≡ None → first_fault_after kind (seen_behind seen k line) lines ≡ None
        → ((next : Seen) (open_cover : OpenCover) → next.cover ≡ Some open_cover → first_fault_after kind next lines ≡ None → AreShaped open_cover.width (rows_of lines))
        → AreShaped cover.width (rows_at k line (rows_of lines))
    by PlanLine f g rest = rest (seen_behind seen PlanLine line) cover e g
    by Row f g rest = (
      shape_of_row cover line (subst (λ o. row_fault o line ≡ None) e f),
      rest (seen_behind seen Row line) (record { width = cover.width; first = first_output cover.first (output_of line) }) (ap (λ o. with_row o (output_of line)) e) g,
    )
    by Model f g rest = tt
    by Inputs f g rest = tt
    by Outputs f g rest = tt
    by Names f g rest = tt
    by Latch f g rest = tt
    by OtherDirective f g rest = tt

-- a line of `.names` without a fault
pub named_line : (kind : Kind) (seen : Seen) (line : TextLine) → names_fault kind seen line ≡ None → (2 ≤ length line.words) × (length line.words ≤ 66)
named_line kind seen line e =
    by (name_count line == 0) refl e
  where
    sized : (a : Option Which) → limit (first_of a (limit_in NodeCount (most_nodes kind) seen.nodes (net_of line ∷ []))) ≡ None → a ≡ None
    sized None e = refl
    sized (Some which) e = cc

    by : (b : Bool) → (name_count line == 0) ≡ b
        → (if b then Some WordCount else limit (first_of (limit_in PinCount 64 0 (pins_of line)) (limit_in NodeCount (most_nodes kind) seen.nodes (net_of line ∷ [])))) ≡ None
        → (2 ≤ length line.words) × (length line.words ≤ 66)
    by true t e = cc
    by false t e =
        let some : 0 < length line.words - 1 = grind (arith, common_steps) in
        let n : limit_in PinCount 64 0 (pins_of line) ≡ None = sized (limit_in PinCount 64 0 (pins_of line)) e in
        let few : 0 + length (pins_of line) ≤ 64 = limit_in_fits PinCount 64 0 64 (pins_of line) (omega arith) (omega arith) n in
        let l : length (pins_of line) ≡ (length line.words - 1) - 1 = length-slice_range line.words 1 (length line.words - 1) (omega arith) in
        (omega arith, omega (arith, few, l))

pub latch_line : (kind : Kind) (seen : Seen) (line : TextLine) → latch_fault kind seen line ≡ None → 3 ≤ length line.words
latch_line kind seen line e =
    let s : has_latch_shape line ≡ true = by (has_latch_shape line) e in
    let two : (nat_le 2 (name_count line) && nat_le (name_count line) 5) ≡ true = and_left (nat_le 2 (name_count line) && nat_le (name_count line) 5) _ s in
    let least : nat_le 2 (name_count line) ≡ true = and_left (nat_le 2 (name_count line)) (nat_le (name_count line) 5) two in
    let m : 2 ≤ length line.words - 1 = grind (arith, common_steps) in
    omega arith
  where
    by : (b : Bool) → (if b then shaped_latch_fault kind seen line else Some WordCount) ≡ None → b ≡ true
    by true e = refl
    by false e = cc

-- lines without a fault, after what was seen, are clean
pub are_clean : (kind : Kind) (lines : List TextLine) (seen : Seen) → first_fault_after kind seen lines ≡ None → AreClean lines
are_clean kind [] seen f = tt
are_clean kind (line ∷ lines) seen f =
    let here = no_fault_here (fault_of kind seen (kind_of line) line) line (first_fault_after kind (seen_behind seen (kind_of line) line) lines) f in
    let later = no_fault_later (fault_of kind seen (kind_of line) line) line (first_fault_after kind (seen_behind seen (kind_of line) line) lines) f in
    (by (kind_of line) here later, are_clean kind lines (seen_behind seen (kind_of line) line) later)
  where
    by : (k : LineKind) → fault_of kind seen k line ≡ None → first_fault_after kind (seen_behind seen k line) lines ≡ None → IsCleanAt k line lines
    by Names f g =
        let sizes = named_line kind seen line f in
        record {
          some = sizes.0;
          few = sizes.1;
          rows = rows_are_shaped kind lines (seen_behind seen Names line) (record { width = width_of line; first = None }) refl g;
        }
    by Latch f g = latch_line kind seen line f
    by PlanLine f g = tt
    by Model f g = tt
    by Inputs f g = tt
    by Outputs f g = tt
    by OtherDirective f g = tt
    by Row f g = tt
