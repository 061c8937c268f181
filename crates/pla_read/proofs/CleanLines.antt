-- Lines without a fault: their rows have their shape, and their names are short words.
use Rattle.std.proofs.Common.{◌≡◌, ℕ, ◌≤◌, Bool, true, false, if◌then◌else◌, List, [], ◌∷◌, ◌++◌, length, find, Option, Some, None, All, unwrap_or, refl, sym, ap, ◌∙◌, subst, append_assoc}
use Rattle.std.specs.Option.{option_map, option_or}
use Rattle.std.proofs.lemmas.Bool.{false≢true}
use Rattle.std.proofs.lemmas.List.Elements.{All-append, All-cons, All-nil}
use Rattle.std.proofs.lemmas.List.Folds.{find-append}
use Rattle.tsc_text.specs.TextLine.{TextLine, the_word}
use Rattle.table_lines.specs.LineFaults.{long_name, names_of, number_in}
use Rattle.table_lines.specs.FirstFault.{first_fault_behind}
use Rattle.table_lines.specs.NamesText.{names_or}
use Rattle.table_lines.specs.Denotes.{HasWords, IsName, IsShort}
use Rattle.table_lines.proofs.LineFacts.{clean_behind, found_line, no_fault}
use Rattle.table_lines.proofs.NameWords.{names_short, words_or}
use Rattle.pla_read.specs.LineKind.{kind_of, kind_of_word, same_kind}
use Rattle.pla_read.specs.Selections.{count_in, is_of, line_of, rows_of}
use Rattle.pla_read.specs.RowText.{has_row_shape}
use Rattle.pla_read.specs.Networks.{input_names, output_names}
use Rattle.pla_read.specs.Faults.{fault_behind, fault_of, first_fault}
use Rattle.pla_read.specs.Shaped.{AreShaped, IsShaped}
use Rattle.pla_read.specs.declared.kinds.LineKind.{LineKind}
use Rattle.pla_read.specs.declared.kinds.LineKind.TheVariants.{PlanLine, Inputs, Outputs, Products, CoverType, InputNames, OutputNames, OtherDirective, Row}
use Rattle.pla_read.proofs.Surveyed.{no_line_before, row_behind}

-- ---- rows

-- a number that was given stays
count_stays : (kind : LineKind) (before more : List TextLine) (n : ℕ) → count_in kind before ≡ Some n → count_in kind (before ++ more) ≡ Some n
count_stays kind before more n e = ap (option_map number_in) (find-append (is_of kind) before more) ∙ by (line_of kind before) e
  where
    by : (o : Option TextLine) → option_map number_in o ≡ Some n → option_map number_in (option_or o (find (is_of kind) more)) ≡ Some n
    by None f = cc
    by (Some line) f = f

row_here : (before : List TextLine) (line : TextLine) (here : LineKind) → same_kind Row here ≡ true → fault_of before here line ≡ None → fault_of before Row line ≡ None
row_here before line Row e f = f
row_here before line PlanLine e f = absurd (false≢true e)
row_here before line Inputs e f = absurd (false≢true e)
row_here before line Outputs e f = absurd (false≢true e)
row_here before line Products e f = absurd (false≢true e)
row_here before line CoverType e f = absurd (false≢true e)
row_here before line InputNames e f = absurd (false≢true e)
row_here before line OutputNames e f = absurd (false≢true e)
row_here before line OtherDirective e f = absurd (false≢true e)

shaped_line : (before more : List TextLine) (line : TextLine) (i o : ℕ) → fault_behind before line ≡ None → count_in Inputs (before ++ more) ≡ Some i
    → count_in Outputs (before ++ more) ≡ Some o → IsShaped i o line
shaped_line before more line i o f a b = λ is.
    let row = row_behind (count_in Inputs before) (count_in Outputs before) (length (rows_of before)) line (row_here before line (kind_of line) is f) in
    let wide : row.wide ≡ i = (let e = count_stays Inputs before more row.wide row.inputs_are in cc) in
    let given : row.given ≡ o = (let e = count_stays Outputs before more row.given row.outputs_are in cc) in
    subst (λ n. has_row_shape n o line.words ≡ true) wide (subst (λ m. has_row_shape row.wide m line.words ≡ true) given row.shape)

shaped_behind : (lines before : List TextLine) (i o : ℕ) → first_fault_behind fault_behind before lines ≡ None → count_in Inputs (before ++ lines) ≡ Some i
    → count_in Outputs (before ++ lines) ≡ Some o → AreShaped i o lines
shaped_behind [] before i o e a b = All-nil (IsShaped i o)
shaped_behind (line ∷ lines) before i o e a b =
    let parts = no_fault (fault_behind before line) line (first_fault_behind fault_behind (before ++ line ∷ []) lines) e in
    All-cons (IsShaped i o) line lines (shaped_line before (line ∷ lines) line i o parts.0 a b)
    (shaped_behind lines (before ++ line ∷ []) i o parts.1
    (ap (count_in Inputs) (append_assoc before (line ∷ []) lines) ∙ a) (ap (count_in Outputs) (append_assoc before (line ∷ []) lines) ∙ b))

-- in lines without a fault that state so many inputs and outputs, each row has their shape
pub shaped_lines : (lines : List TextLine) (i o : ℕ) → first_fault lines ≡ None → count_in Inputs lines ≡ Some i → count_in Outputs lines ≡ Some o → AreShaped i o lines
shaped_lines lines i o e a b = shaped_behind lines [] i o e a b

-- ---- names

abbrev HasShortNames : TextLine → Type 0
HasShortNames line = long_name (names_of line) ≡ None

inputs_short : (before : List TextLine) (line : TextLine) (here : LineKind) → same_kind InputNames here ≡ true → fault_of before here line ≡ None → HasShortNames line
inputs_short before line InputNames e f = (no_line_before InputNames before (long_name (names_of line)) f).1
inputs_short before line PlanLine e f = absurd (false≢true e)
inputs_short before line Inputs e f = absurd (false≢true e)
inputs_short before line Outputs e f = absurd (false≢true e)
inputs_short before line Products e f = absurd (false≢true e)
inputs_short before line CoverType e f = absurd (false≢true e)
inputs_short before line OutputNames e f = absurd (false≢true e)
inputs_short before line OtherDirective e f = absurd (false≢true e)
inputs_short before line Row e f = absurd (false≢true e)

outputs_short : (before : List TextLine) (line : TextLine) (here : LineKind) → same_kind OutputNames here ≡ true → fault_of before here line ≡ None → HasShortNames line
outputs_short before line OutputNames e f = (no_line_before OutputNames before (long_name (names_of line)) f).1
outputs_short before line PlanLine e f = absurd (false≢true e)
outputs_short before line Inputs e f = absurd (false≢true e)
outputs_short before line Outputs e f = absurd (false≢true e)
outputs_short before line Products e f = absurd (false≢true e)
outputs_short before line CoverType e f = absurd (false≢true e)
outputs_short before line InputNames e f = absurd (false≢true e)
outputs_short before line OtherDirective e f = absurd (false≢true e)
outputs_short before line Row e f = absurd (false≢true e)

pub short_names : (lines : List TextLine) (i o : ℕ) → first_fault lines ≡ None → count_in Inputs lines ≡ Some i → count_in Outputs lines ≡ Some o → i ≤ 64 → o ≤ 64
    → All IsShort (input_names lines ++ output_names lines)
short_names lines i o e a b few_i few_o =
    All-append IsShort (input_names lines) (output_names lines)
    (subst (λ (n : Option ℕ). All IsShort (names_or (line_of InputNames lines) 105 (unwrap_or n 0))) (sym a)
    (names_short (line_of InputNames lines) 105 i few_i
    (λ line f. clean_behind fault_behind (is_of InputNames) HasShortNames (λ before line is g. inputs_short before line (kind_of line) is g) lines [] line e f)))
    (subst (λ (n : Option ℕ). All IsShort (names_or (line_of OutputNames lines) 111 (unwrap_or n 0))) (sym b)
    (names_short (line_of OutputNames lines) 111 o few_o
    (λ line f. clean_behind fault_behind (is_of OutputNames) HasShortNames (λ before line is g. outputs_short before line (kind_of line) is g) lines [] line e f)))

no_plan_line : (kind : LineKind) (line : TextLine) → same_kind kind PlanLine ≡ false → is_of kind line ≡ true → line.is_plan ≡ false
no_plan_line kind line other is = by line.is_plan refl is
  where
    by : (b : Bool) → line.is_plan ≡ b → same_kind kind (if b then PlanLine else kind_of_word (the_word line 0)) ≡ true → b ≡ false
    by true e f = absurd (false≢true (sym other ∙ f))
    by false e f = refl

given_words : (kind : LineKind) (lines : List TextLine) → same_kind kind PlanLine ≡ false → All HasWords lines → (line : TextLine) → line_of kind lines ≡ Some line
    → HasWords line × (line.is_plan ≡ false)
given_words kind lines other h line f =
    let found = found_line (is_of kind) HasWords lines line h f in
    (found.0, no_plan_line kind line other found.1)

pub named_by_words : (lines : List TextLine) (i o : ℕ) → count_in Inputs lines ≡ Some i → count_in Outputs lines ≡ Some o → i ≤ 64 → o ≤ 64 → All HasWords lines
    → All IsName (input_names lines ++ output_names lines)
named_by_words lines i o a b few_i few_o h =
    All-append IsName (input_names lines) (output_names lines)
    (subst (λ (n : Option ℕ). All IsName (names_or (line_of InputNames lines) 105 (unwrap_or n 0))) (sym a)
    (words_or (line_of InputNames lines) 105 i refl few_i (given_words InputNames lines refl h)))
    (subst (λ (n : Option ℕ). All IsName (names_or (line_of OutputNames lines) 111 (unwrap_or n 0))) (sym b)
    (words_or (line_of OutputNames lines) 111 o refl few_o (given_words OutputNames lines refl h)))
