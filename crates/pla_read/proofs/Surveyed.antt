-- What is seen of lines, one line after the other.
use Rattle.std.proofs.Common.{◌≡◌, ℕ, suc, ◌+◌, ◌<◌, ◌≤◌, Bool, true, false, cond, if◌then◌else◌, nat_le, nat_lt, eqb, List, [], ◌∷◌, ◌++◌, length, take, Option, Some, None, unwrap_or, refl, sym, ap, ◌∙◌, subst, arith}
use Rattle.std.specs.Option.{option_map, option_or, is_some}
use Rattle.std.proofs.lemmas.Bool.{leb-false, ltb-false, eqb-false}
use Rattle.std.proofs.lemmas.List.{length_push}
use Rattle.std.proofs.lemmas.List.Elements.{filter-append}
use Rattle.std.proofs.lemmas.List.Folds.{find-append}
use Rattle.tsc_text.specs.TextLine.{TextLine, the_line, the_word}
use Rattle.tsc_text.specs.Number.{number_of}
use Rattle.tsc_text.specs.declared.which.Which.{Which}
use Rattle.tsc_text.specs.declared.which.Which.TheVariants.{Rows as RowCount}
use Rattle.table_lines.specs.LineFaults.{count_fault, number_fault, number_in, unless_before}
use Rattle.table_lines.specs.declared.cause.Cause.{Cause}
use Rattle.table_lines.specs.declared.cause.Cause.TheVariants.{Header, RowShape, Limit}
use Rattle.table_lines.proofs.LineFacts.{before_next}
use Rattle.pla_read.specs.LineKind.{kind_of, same_kind}
use Rattle.pla_read.specs.Selections.{count_in, has_line, is_of, line_of, rows_of}
use Rattle.pla_read.specs.RowText.{has_row_shape}
use Rattle.pla_read.specs.Faults.{fault_behind, fault_of, row_fault}
use Rattle.pla_read.specs.Survey.{survey_behind, survey_of, IsFewBits, IsWithin}
use Rattle.pla_read.specs.declared.kinds.LineKind.{LineKind}
use Rattle.pla_read.specs.declared.kinds.LineKind.TheVariants.{PlanLine, Inputs, Outputs, Products, CoverType, InputNames, OutputNames, OtherDirective, Row}
use Rattle.pla_read.specs.declared.survey.Survey.{Survey}

-- ---- selections of lines with one more at the end

-- a number that was given, or else that of the last line, where it is of the kind
abbrev count_or : Option ℕ → Bool → ℕ → Option ℕ
count_or (Some count) last number = Some count
count_or None true number = Some number
count_or None false number = None

pub count-push : (kind : LineKind) (before : List TextLine) (line : TextLine)
    → count_in kind (before ++ line ∷ []) ≡ count_or (count_in kind before) (same_kind kind (kind_of line)) (number_in line)
count-push kind before line =
    ap (option_map number_in) (find-append (is_of kind) before (line ∷ [])) ∙ by (line_of kind before) (same_kind kind (kind_of line))
  where
    by : (o : Option TextLine) (b : Bool)
        → option_map number_in (option_or o (cond b (Some line) None)) ≡ count_or (option_map number_in o) b (number_in line)
    by (Some found) b = refl
    by None true = refl
    by None false = refl

pub rows-push : (before : List TextLine) (line : TextLine) → rows_of (before ++ line ∷ []) ≡ rows_of before ++ cond (same_kind Row (kind_of line)) (line ∷ []) []
rows-push before line = filter-append (is_of Row) before (line ∷ [])

-- ---- the survey

same_survey : (i o i' o' : Option ℕ) (r r' : ℕ) → i ≡ i' → o ≡ o' → r ≡ r'
    → ◌≡◌ {A = Survey} (record { inputs = i; outputs = o; rows = r }) (record { inputs = i'; outputs = o'; rows = r' })
same_survey i o i' o' r r' a b c = cc

pub no_line_before : (kind : LineKind) (before : List TextLine) (fault : Option Cause) → unless_before (has_line kind before) fault ≡ None
    → (count_in kind before ≡ None) × (fault ≡ None)
no_line_before kind before fault e = by (line_of kind before) e
  where
    by : (o : Option TextLine) → unless_before (is_some o) fault ≡ None → (option_map number_in o ≡ None) × (fault ≡ None)
    by (Some line) e = cc
    by None e = (refl, e)

module _ (before : List TextLine) (line : TextLine) where
  abbrev all : List TextLine
  all = before ++ line ∷ []

  counted : (kind here : LineKind) → here ≡ kind_of line → count_in kind all ≡ count_or (count_in kind before) (same_kind kind here) (number_in line)
  counted kind here e = count-push kind before line ∙ ap (λ k. count_or (count_in kind before) (same_kind kind k) (number_in line)) (sym e)

  listed : (here : LineKind) → here ≡ kind_of line → rows_of all ≡ rows_of before ++ cond (same_kind Row here) (line ∷ []) []
  listed here e = rows-push before line ∙ ap (λ k. rows_of before ++ cond (same_kind Row k) (line ∷ []) []) (sym e)

  -- a line that gives neither number is passed over
  kept : (c : Option ℕ) → count_or c false (number_in line) ≡ c
  kept None = refl
  kept (Some count) = refl

  given : (c : Option ℕ) → c ≡ None → count_or c true (number_in line) ≡ Some (number_in line)
  given None e = refl
  given (Some count) e = cc

  no_row : (xs : List TextLine) → length (xs ++ []) ≡ length xs
  no_row [] = refl
  no_row (x ∷ xs) = ap suc (no_row xs)

  -- a line of a kind that gives nothing
  passed : (here : LineKind) → here ≡ kind_of line → same_kind Inputs here ≡ false → same_kind Outputs here ≡ false → same_kind Row here ≡ false
      → survey_of all ≡ survey_of before
  passed here e i o r = same_survey _ _ _ _ _ _
      (counted Inputs here e ∙ ap (λ b. count_or (count_in Inputs before) b (number_in line)) i ∙ kept (count_in Inputs before))
      (counted Outputs here e ∙ ap (λ b. count_or (count_in Outputs before) b (number_in line)) o ∙ kept (count_in Outputs before))
      (ap length (listed here e) ∙ ap (λ b. length (rows_of before ++ cond b (line ∷ []) [])) r ∙ no_row (rows_of before))

  survey_with : (here : LineKind) → here ≡ kind_of line → fault_of before here line ≡ None → survey_of all ≡ survey_behind (survey_of before) here line
  survey_with Inputs e f = same_survey _ _ _ _ _ _
      (counted Inputs Inputs e ∙ given (count_in Inputs before) (no_line_before Inputs before _ f).0)
      (counted Outputs Inputs e ∙ kept (count_in Outputs before))
      (ap length (listed Inputs e) ∙ no_row (rows_of before))
  survey_with Outputs e f = same_survey _ _ _ _ _ _
      (counted Inputs Outputs e ∙ kept (count_in Inputs before))
      (counted Outputs Outputs e ∙ given (count_in Outputs before) (no_line_before Outputs before _ f).0)
      (ap length (listed Outputs e) ∙ no_row (rows_of before))
  survey_with Row e f = same_survey _ _ _ _ _ _
      (counted Inputs Row e ∙ kept (count_in Inputs before))
      (counted Outputs Row e ∙ kept (count_in Outputs before))
      (ap length (listed Row e) ∙ length_push (rows_of before) line)
  survey_with PlanLine e f = passed PlanLine e refl refl refl
  survey_with Products e f = passed Products e refl refl refl
  survey_with CoverType e f = passed CoverType e refl refl refl
  survey_with InputNames e f = passed InputNames e refl refl refl
  survey_with OutputNames e f = passed OutputNames e refl refl refl
  survey_with OtherDirective e f = passed OtherDirective e refl refl refl

-- ---- its limits

few_bits : (which : Which) (line : TextLine) → count_fault which line ≡ None → IsFewBits (Some (number_in line))
few_bits which line e = by (eqb (length line.words) 2) (number_of (the_word line 1)) e
  where
    ranged : (n : ℕ) (z m : Bool) → eqb n 0 ≡ z → nat_lt 64 n ≡ m → (if z then Some Header else (if m then Some (Limit which) else None)) ≡ None → (1 ≤ n) × (n ≤ 64)
    ranged n true m zero most e = cc
    ranged n false true zero most e = cc
    ranged n false false zero most e = (let some = eqb-false n 0 zero in omega arith, ltb-false 64 n most)

    by : (b : Bool) (number : Option ℕ) → (if b then number_fault which number else Some Header) ≡ None → IsFewBits (Some (unwrap_or number 0))
    by false number e = cc
    by true None e = cc
    by true (Some n) e = ranged n (eqb n 0) (nat_lt 64 n) refl refl e

-- a row without a fault
pub record IsRowBehind (inputs outputs : Option ℕ) (rows : ℕ) (line : TextLine) : Type 0 where
  pub wide : ℕ
  pub given : ℕ
  pub inputs_are : inputs ≡ Some wide
  pub outputs_are : outputs ≡ Some given
  pub shape : has_row_shape wide given line.words ≡ true
  pub few_rows : rows + 1 ≤ 16384

pub row_behind : (inputs outputs : Option ℕ) (rows : ℕ) (line : TextLine) → row_fault inputs outputs rows line ≡ None → IsRowBehind inputs outputs rows line
row_behind None outputs rows line e = cc
row_behind (Some inputs) None rows line e = cc
row_behind (Some inputs) (Some outputs) rows line e = by (has_row_shape inputs outputs line.words) (nat_le 16384 rows) refl refl e
  where
    by : (a b : Bool) → has_row_shape inputs outputs line.words ≡ a → nat_le 16384 rows ≡ b
        → (if a then (if b then Some (Limit RowCount) else None) else Some RowShape) ≡ None
        → IsRowBehind (Some inputs) (Some outputs) rows line
    by false b f g e = cc
    by true true f g e = cc
    by true false f g e = record {
      wide = inputs;
      given = outputs;
      inputs_are = refl;
      outputs_are = refl;
      shape = f;
      few_rows = (let below = leb-false 16384 rows g in omega arith);
    }

within_with : (before : List TextLine) (line : TextLine) (here : LineKind) → fault_of before here line ≡ None → IsWithin (survey_of before)
    → IsWithin (survey_behind (survey_of before) here line)
within_with before line Inputs f w =
    let none = no_line_before Inputs before _ f in
    record { few_inputs = few_bits _ line none.1; few_outputs = w.few_outputs; few_rows = w.few_rows }
within_with before line Outputs f w =
    let none = no_line_before Outputs before _ f in
    record { few_inputs = w.few_inputs; few_outputs = few_bits _ line none.1; few_rows = w.few_rows }
within_with before line Row f w =
    let row = row_behind (count_in Inputs before) (count_in Outputs before) (length (rows_of before)) line f in
    record { few_inputs = w.few_inputs; few_outputs = w.few_outputs; few_rows = row.few_rows }
within_with before line PlanLine f w = w
within_with before line Products f w = w
within_with before line CoverType f w = w
within_with before line InputNames f w = w
within_with before line OutputNames f w = w
within_with before line OtherDirective f w = w

-- ---- one line after the other
pub within_push : (before : List TextLine) (line : TextLine) → fault_behind before line ≡ None → IsWithin (survey_of before) → IsWithin (survey_of (before ++ line ∷ []))
within_push before line sound within =
    subst IsWithin (sym (survey_with before line (kind_of line) refl sound)) (within_with before line (kind_of line) sound within)

module _ (lines : List TextLine) (at : ℕ) (below : at < length lines) where
  abbrev seen : List TextLine
  seen = take at lines

  abbrev here : TextLine
  here = the_line lines at

  pub survey_next : (s t : Survey) → s ≡ survey_of seen → t ≡ survey_behind s (kind_of here) here → None ≡ fault_behind seen here
      → t ≡ survey_of (take (at + 1) lines)
  survey_next s t is behind sound =
      behind ∙ ap (λ s. survey_behind s (kind_of here) here) is ∙ sym (survey_with seen here (kind_of here) refl (sym sound))
      ∙ ap survey_of (sym (before_next fault_behind lines at below))

  pub within_next : (s t : Survey) → s ≡ survey_of seen → t ≡ survey_behind s (kind_of here) here → None ≡ fault_behind seen here → IsWithin s → IsWithin t
  within_next s t is behind sound w =
      subst IsWithin (sym (behind ∙ ap (λ s. survey_behind s (kind_of here) here) is))
      (within_with seen here (kind_of here) (sym sound) (subst IsWithin is w))
