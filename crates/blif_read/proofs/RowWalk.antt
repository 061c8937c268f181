-- The rows of lines, one line after the other, and the shape of a row.
use Rattle.std.proofs.Common.{◌≡◌, ℕ, ◌+◌, ◌<◌, ◌≤◌, Bool, true, false, ◌&&◌, ◌==◌, List, [], ◌∷◌, drop, length, get_or, arith, refl, ◌∙◌, nat_lt}
use Rattle.std.proofs.lemmas.Grind.{common_steps}
use Rattle.tsc_cover.specs.Text.{is_row_text}
use Rattle.tsc_text.specs.TextLine.{TextLine, no_line, the_line}
use Rattle.blif_read.specs.LineKind.{kind_of}
use Rattle.blif_read.specs.Rows.{rows_at, rows_of, has_row_shape, input_of, is_bit_word}
use Rattle.blif_read.specs.declared.kinds.LineKind.{LineKind}
use Rattle.blif_read.specs.declared.kinds.LineKind.TheVariants.{PlanLine, Model, Inputs, Outputs, Names, Latch, OtherDirective, Row}
use Rattle.std.proofs.lemmas.List.{drop_all, drop_more}

rows_by : (k : LineKind) (lines : List TextLine) (at : ℕ) → at < length lines → k ≡ kind_of (the_line lines at)
    → rows_of (drop at lines) ≡ rows_at k (the_line lines at) (rows_of (drop (at + 1) lines))
rows_by k lines at h e = rw (drop_more lines at no_line h, e) refl

pub rows_here : (lines : List TextLine) (at : ℕ) → at < length lines → Row ≡ kind_of (the_line lines at)
    → rows_of (drop at lines) ≡ the_line lines at ∷ rows_of (drop (at + 1) lines)
rows_here lines at h e = rows_by Row lines at h e

pub rows_passed : (lines : List TextLine) (at : ℕ) → at < length lines → PlanLine ≡ kind_of (the_line lines at)
    → rows_of (drop at lines) ≡ rows_of (drop (at + 1) lines)
rows_passed lines at h e = rows_by PlanLine lines at h e

pub rows_end : (lines : List TextLine) (at : ℕ) → length lines ≤ at → rows_of (drop at lines) ≡ []
rows_end lines at h = rw (drop_all at lines h) refl

-- another directive closes the cover
pub closed_at : (k : LineKind) (line : TextLine) (later : List TextLine) → (k ≡ PlanLine → ⊥) → (k ≡ Row → ⊥) → rows_at k line later ≡ []
closed_at PlanLine line later p r = absurd (p refl)
closed_at Row line later p r = absurd (r refl)
closed_at Model line later p r = refl
closed_at Inputs line later p r = refl
closed_at Outputs line later p r = refl
closed_at Names line later p r = refl
closed_at Latch line later p r = refl
closed_at OtherDirective line later p r = refl

pub rows_closed : (k : LineKind) (lines : List TextLine) (at : ℕ) → at < length lines → k ≡ kind_of (the_line lines at)
    → (k ≡ PlanLine → ⊥) → (k ≡ Row → ⊥) → rows_of (drop at lines) ≡ []
rows_closed k lines at h e p r = rows_by k lines at h e ∙ closed_at k (the_line lines at) (rows_of (drop (at + 1) lines)) p r

pub and_left : (a b : Bool) → (a && b) ≡ true → a ≡ true
and_left true b e = refl
and_left false b e = e

pub and_right : (a b : Bool) → (a && b) ≡ true → b ≡ true
and_right true b e = e
and_right false b e = cc

-- a row with pins has two words
pub record HasPins (width : ℕ) (words : List (List ℕ)) : Type 0 where
  pub two : length words ≡ 2
  pub wide : length (get_or words 0 []) ≡ width
  pub text : is_row_text (get_or words 0 []) ≡ true
  pub input : input_of words ≡ get_or words 0 []

-- a row of the shape that a cover with pins asks for has two words, and its input has one character per pin
pub row_with_pins : (width : ℕ) (words : List (List ℕ)) → has_row_shape width words ≡ true → 0 < width → HasPins width words
row_with_pins width [] e h = cc
row_with_pins width (output ∷ []) e h =
    let z : (width == 0) ≡ true = and_left _ _ e in
    let n : width ≡ 0 = grind (arith, common_steps) in
    absurd (omega arith)
row_with_pins width (input ∷ output ∷ []) e h =
    let pins : ((nat_lt 0 width && length input == width) && is_row_text input) ≡ true = and_left ((nat_lt 0 width && length input == width) && is_row_text input) (is_bit_word output) e in
    let both : (nat_lt 0 width && length input == width) ≡ true = and_left (nat_lt 0 width && length input == width) (is_row_text input) pins in
    let sized : (length input == width) ≡ true = and_right (nat_lt 0 width) (length input == width) both in
    record {
      two = refl;
      wide = grind (arith, common_steps);
      text = and_right (nat_lt 0 width && length input == width) (is_row_text input) pins;
      input = refl;
    }
row_with_pins width (input ∷ output ∷ word ∷ words) e h = cc

-- a row of the shape that a cover without pins asks for has no input
pub row_without_pins : (words : List (List ℕ)) → has_row_shape 0 words ≡ true → input_of words ≡ []
row_without_pins [] e = refl
row_without_pins (output ∷ []) e = refl
row_without_pins (input ∷ output ∷ []) e = cc
row_without_pins (input ∷ output ∷ word ∷ words) e = cc
