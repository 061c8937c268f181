-- The search for the first line of a kind and for the last line, one line after the other.
use Rattle.std.proofs.Common.{◌≡◌, ℕ, ◌+◌, ◌<◌, ◌≤◌, true, false, List, length, drop, if◌then◌else◌, Some, None, refl, sym, ap, ◌∙◌}
use Rattle.std.specs.List.{slice_range}
use Rattle.std.proofs.lemmas.List.{drop_all, drop_more}
use Rattle.tsc_text.specs.TextLine.{TextLine, no_line, the_line}
use Rattle.pla_read.specs.LineKind.{kind_of, same_kind}
use Rattle.pla_read.specs.Selections.{line_of}
use Rattle.pla_read.specs.Refusal.{last_number_or}
use Rattle.pla_read.specs.contracts.kinds.LineKind.{the_type}
use Rattle.pla_read.specs.declared.kinds.LineKind.{LineKind}
use Rattle.pla_read.specs.declared.kinds.LineKind.TheVariants.{PlanLine, Inputs, Outputs, Products, CoverType, InputNames, OutputNames, OtherDirective, Row}
use Rattle.tsc_bits.proofs.Ranges.{range_cons, range_none}
use denote.Enum.Bare.{sameb}

-- what `==` tells of two kinds
pub same_kinds : (kind other : LineKind) → sameb the_type other kind ≡ same_kind kind other
same_kinds PlanLine PlanLine = refl
same_kinds Inputs Inputs = refl
same_kinds Outputs Outputs = refl
same_kinds Products Products = refl
same_kinds CoverType CoverType = refl
same_kinds InputNames InputNames = refl
same_kinds OutputNames OutputNames = refl
same_kinds OtherDirective OtherDirective = refl
same_kinds Row Row = refl
same_kinds _ _ = refl

pub line_here : (kind : LineKind) (lines : List TextLine) (at past : ℕ) → at < past → past ≤ length lines
    → sameb the_type (kind_of (the_line lines at)) kind ≡ true → line_of kind (slice_range lines at past) ≡ Some (the_line lines at)
line_here kind lines at past h k e = rw (range_cons lines at past no_line h k, sym (same_kinds kind (kind_of (the_line lines at))) ∙ e) refl

pub line_later : (kind : LineKind) (lines : List TextLine) (at past : ℕ) → at < past → past ≤ length lines
    → sameb the_type (kind_of (the_line lines at)) kind ≡ false → line_of kind (slice_range lines at past) ≡ line_of kind (slice_range lines (at + 1) past)
line_later kind lines at past h k e = rw (range_cons lines at past no_line h k, sym (same_kinds kind (kind_of (the_line lines at))) ∙ e) refl

pub line_end : (kind : LineKind) (lines : List TextLine) (at past : ℕ) → past ≤ at → line_of kind (slice_range lines at past) ≡ None
line_end kind lines at past h = rw (range_none lines at past h) refl

-- ---- the last line

pub last_step : (lines : List TextLine) (at number : ℕ) → at < length lines
    → last_number_or number (drop at lines) ≡ last_number_or (if (the_line lines at).is_plan then number else (the_line lines at).number) (drop (at + 1) lines)
last_step lines at number h = rw (drop_more lines at no_line h) refl

pub last_plan : (lines : List TextLine) (at number : ℕ) → at < length lines → (the_line lines at).is_plan ≡ true
    → last_number_or number (drop at lines) ≡ last_number_or number (drop (at + 1) lines)
last_plan lines at number h e =
    last_step lines at number h ∙ ap (λ b. last_number_or (if b then number else (the_line lines at).number) (drop (at + 1) lines)) e

pub last_other : (lines : List TextLine) (at number : ℕ) → at < length lines → (the_line lines at).is_plan ≡ false
    → last_number_or number (drop at lines) ≡ last_number_or (the_line lines at).number (drop (at + 1) lines)
last_other lines at number h e =
    last_step lines at number h ∙ ap (λ b. last_number_or (if b then number else (the_line lines at).number) (drop (at + 1) lines)) e

pub last_end : (lines : List TextLine) (at number : ℕ) → length lines ≤ at → last_number_or number (drop at lines) ≡ number
last_end lines at number h = rw (drop_all at lines h) refl
