-- The search for the first line of a kind, one line after the other.
use Rattle.std.proofs.Common.{◌≡◌, ℕ, ◌+◌, ◌<◌, ◌≤◌, true, false, List, length, Some, None, refl, sym, ◌∙◌}
use Rattle.std.specs.List.{slice_range}
use Rattle.tsc_text.specs.TextLine.{TextLine, no_line, the_line}
use Rattle.kiss_read.specs.LineKind.{kind_of, same_kind}
use Rattle.kiss_read.specs.Selections.{line_of}
use Rattle.kiss_read.specs.contracts.kinds.LineKind.{the_type}
use Rattle.kiss_read.specs.declared.kinds.LineKind.{LineKind}
use Rattle.kiss_read.specs.declared.kinds.LineKind.TheVariants.{PlanLine, Inputs, Outputs, Products, StateCount, Reset, InputNames, OutputNames, OtherDirective, Row}
use Rattle.tsc_bits.proofs.Ranges.{range_cons, range_none}
use denote.Enum.Bare.{sameb}

-- what `==` tells of two kinds
pub same_kinds : (kind other : LineKind) → sameb the_type other kind ≡ same_kind kind other
same_kinds PlanLine PlanLine = refl
same_kinds Inputs Inputs = refl
same_kinds Outputs Outputs = refl
same_kinds Products Products = refl
same_kinds StateCount StateCount = refl
same_kinds Reset Reset = refl
same_kinds InputNames InputNames = refl
same_kinds OutputNames OutputNames = refl
same_kinds OtherDirective OtherDirective = refl
same_kinds Row Row = refl
same_kinds _ _ = refl

pub line_here : (kind : LineKind) (lines : List TextLine) (at past : ℕ) → at < past → past ≤ length lines
    → sameb the_type (kind_of (the_line lines at)) kind ≡ true → line_of kind (slice_range lines at past) ≡ Some (the_line lines at)
line_here kind lines at past h k e = rw (range_cons lines at past no_line h k, sym (same_kinds kind (kind_of (the_line lines at))) ∙ e) refl

pub line_later : (kind : LineKind) (lines : List TextLine) (at past : ℕ) → at < past → past ≤ length lines
    → sameb the_type (kind_of (the_line lines at)) kind ≡ false → line_of kind (slice_range lines at past) ≡ line_of kind (slice_range lines (at + 1) past)
line_later kind lines at past h k e = rw (range_cons lines at past no_line h k, sym (same_kinds kind (kind_of (the_line lines at))) ∙ e) refl

pub line_end : (kind : LineKind) (lines : List TextLine) (at past : ℕ) → past ≤ at → line_of kind (slice_range lines at past) ≡ None
line_end kind lines at past h = rw (range_none lines at past h) refl
