-- The lines of the rows of a made text: of which kind they are, and the states that they name.
use Rattle.std.proofs.Common.{◌≡◌, refl, arith, ℕ, ◌+◌, ◌*◌, ◌/◌, ◌<◌, ◌≤◌, Bool, true, false, cond, not, ◌&&◌, ◌||◌, ◌==◌, eqb, nat_le, nat_lt, if◌then◌else◌, List, [], ◌∷◌, ◌++◌, codes, length, map, Some, None, ap, ap₂, ◌∙◌, ne_eqb, fold, find, option_map}
use Rattle.std.specs.List.{list_any, AllByRecursion as Each}
use Rattle.std.specs.Str.{bytes_eq}
use Rattle.std.proofs.lemmas.Bool.{lt-leb, le-ltb}
use Rattle.std.proofs.lemmas.List.{length-append}
use Rattle.std.proofs.lemmas.List.Folds.{list_all-append, list_any-append, find-append}
use Rattle.std.proofs.lemmas.List.Elements.{filter-append}
use Rattle.std.proofs.lemmas.List.Sums.{fold-append}
use Rattle.tsc_cover.specs.Text.{is_literal, is_row_text}
use Rattle.tsc_text.specs.TextLine.{TextLine}
use Rattle.tsc_text.specs.Section.{is_end_line}
use Rattle.tsc_text.specs.declared.section.End.TheVariants.{Kiss}
use Rattle.tsc_text.specs.Written.{numbered}
use Rattle.tsc_net.specs.Names.{has_text, with_text}
use Rattle.tsc_net.proofs.NameLemmas.{has_added}
use Rattle.table_lines.specs.LineFaults.{is_long, number_in}
use Rattle.table_lines.specs.FirstFault.{fault_or, first_fault_behind}
use Rattle.kiss_read.specs.LineKind.{kind_of, same_kind}
use Rattle.kiss_read.specs.Selections.{count_in, is_of, line_of, rows_of, states_in, states_of_lines, with_states}
use Rattle.kiss_read.specs.RowText.{has_row_shape}
use Rattle.kiss_read.specs.Faults.{fault_behind, row_limit}
use Rattle.kiss_read.specs.declared.kinds.LineKind.{LineKind}
use Rattle.kiss_read.specs.declared.kinds.LineKind.TheVariants.{Inputs, Outputs, Row}
use Rattle.machine_maker.specs.Drawn.{DrawnRow}
use Rattle.machine_maker.specs.MadeText.{number_digits, state_name}
use Rattle.machine_maker.specs.MadeLines.{row_words, written_row}
use Rattle.machine_maker.proofs.RowFacts.{IsRowOf, short_name}
use Rattle.machine_maker.proofs.MadeLines.{digits_are}

-- the line of a row with a number, and the lines of rows from a number on
abbrev pub line_at : ℕ → DrawnRow → TextLine
line_at number row = record { number = number; is_plan = false; words = row_words row }

abbrev pub lines_at : ℕ → List DrawnRow → List TextLine
lines_at number rows = numbered number (map written_row rows)

-- ---- a row's line is a row

no_dot : (row : DrawnRow) → eqb (48 + row.number / 2) 46 ≡ false
no_dot row = ne_eqb (48 + row.number / 2) 46 (λ same. omega arith)

pub row_kind : (number : ℕ) (row : DrawnRow) → kind_of (line_at number row) ≡ Row
row_kind number row = rw (no_dot row) refl

pub row_goes_on : (number : ℕ) (row : DrawnRow) → is_end_line Kiss (line_at number row) ≡ false
row_goes_on number row = rw (no_dot row) refl

pub is_row : (number : ℕ) (row : DrawnRow) → is_of Row (line_at number row) ≡ true
is_row number row = ap (same_kind Row) (row_kind number row)

pub is_no : (kind : LineKind) (number : ℕ) (row : DrawnRow) → same_kind kind Row ≡ false → is_of kind (line_at number row) ≡ false
is_no kind number row other = ap (same_kind kind) (row_kind number row) ∙ other

-- all of them are rows, and no line of another kind is among them
pub all_rows : (number : ℕ) (rows : List DrawnRow) → rows_of (lines_at number rows) ≡ lines_at number rows
all_rows number [] = refl
all_rows number (row ∷ rows) =
    ap (λ b. cond b (line_at number row ∷ rows_of (lines_at (number + 1) rows)) (rows_of (lines_at (number + 1) rows))) (is_row number row)
    ∙ ap (λ l. line_at number row ∷ l) (all_rows (number + 1) rows)

pub none_of : (kind : LineKind) (number : ℕ) (rows : List DrawnRow) → same_kind kind Row ≡ false → line_of kind (lines_at number rows) ≡ None
none_of kind number [] other = refl
none_of kind number (row ∷ rows) other =
    ap (λ b. cond b (Some (line_at number row)) (line_of kind (lines_at (number + 1) rows))) (is_no kind number row other)
    ∙ none_of kind (number + 1) rows other

-- ---- the states

-- a text that stands there stands there when another is added, and one that is added does
kept : (states : List (List ℕ)) (text added : List ℕ) → has_text states text ≡ true → has_text (with_text states added) text ≡ true
kept states text added e = by (has_text states added)
  where
    by : (b : Bool) → has_text (if b then states else states ++ added ∷ []) text ≡ true
    by true = e
    by false = list_any-append (bytes_eq text) states (added ∷ []) ∙ ap (λ b. b || list_any (bytes_eq text) (added ∷ [])) e

one_more : (states : List (List ℕ)) (word : List ℕ) → length (with_text states word) ≤ length states + 1
one_more states word = by (has_text states word)
  where
    by : (b : Bool) → length (if b then states else states ++ word ∷ []) ≤ length states + 1
    by true = omega arith
    by false = let longer = length-append states (word ∷ []) in omega (arith, longer)

pub two_more : (number : ℕ) (states : List (List ℕ)) (row : DrawnRow) → length (with_states states (line_at number row)) ≤ length states + 2
two_more number states row =
    let first = one_more states (state_name row.state) in
    let second = one_more (with_text states (state_name row.state)) (state_name row.next) in
    omega (arith, first, second)

kept_by : (number : ℕ) (states : List (List ℕ)) (text : List ℕ) (rows : List DrawnRow) → has_text states text ≡ true
    → has_text (fold with_states states (lines_at number rows)) text ≡ true
kept_by number states text [] e = e
kept_by number states text (row ∷ rows) e =
    kept_by (number + 1) (with_states states (line_at number row)) text rows
    (kept (with_text states (state_name row.state)) text (state_name row.next) (kept states text (state_name row.state) e))

-- each row's state is among the states of the rows
pub known : (number : ℕ) (states : List (List ℕ)) (rows : List DrawnRow)
    → Each (λ row. has_text (fold with_states states (lines_at number rows)) (state_name row.state) ≡ true) rows
known number states [] = tt
known number states (row ∷ rows) = (
  kept_by (number + 1) (with_states states (line_at number row)) (state_name row.state) rows
      (kept (with_text states (state_name row.state)) (state_name row.state) (state_name row.next) (has_added states (state_name row.state))),
  known (number + 1) (with_states states (line_at number row)) rows,
)

-- ---- no row has a fault

-- what is known behind some lines: the lines of inputs and of outputs, how many rows and states there are at most
pub record IsBehind (inputs outputs : TextLine) (before : List TextLine) (count : ℕ) : Type 0 where
  pub inputs_line : line_of Inputs before ≡ Some inputs
  pub outputs_line : line_of Outputs before ≡ Some outputs
  pub rows : length (rows_of before) ≤ count
  pub states : length (states_of_lines before) ≤ 2 * count

found_before : (p : TextLine → Bool) (before : List TextLine) (line found : TextLine) → find p before ≡ Some found → find p (before ++ line ∷ []) ≡ Some found
found_before p before line found e = find-append p before (line ∷ []) ∙ rw e refl

pub behind_more : (inputs outputs : TextLine) (before : List TextLine) (count number : ℕ) (row : DrawnRow)
    → IsBehind inputs outputs before count → IsBehind inputs outputs (before ++ line_at number row ∷ []) (count + 1)
behind_more inputs outputs before count number row is =
    let line = line_at number row in
    let more : rows_of (before ++ line ∷ []) ≡ rows_of before ++ line ∷ [] =
    filter-append (is_of Row) before (line ∷ []) ∙ ap (λ b. rows_of before ++ cond b (line ∷ []) []) (is_row number row) in
    let longer = length-append (rows_of before) (line ∷ []) in
    let few = is.rows in
    let count_is = ap (λ (l : List TextLine). length l) more in
    let states_are : states_of_lines (before ++ line ∷ []) ≡ with_states (states_of_lines before) line =
    ap states_in more ∙ fold-append with_states [] (rows_of before) (line ∷ []) in
    let two = two_more number (states_of_lines before) row in
    let so_far = is.states in
    let states_count = ap (λ (l : List (List ℕ)). length l) states_are in
    record {
      inputs_line = found_before (is_of Inputs) before line inputs is.inputs_line;
      outputs_line = found_before (is_of Outputs) before line outputs is.outputs_line;
      rows = omega (arith, longer, few, count_is);
      states = omega (arith, two, so_far, states_count);
    }

short_enough : (state : ℕ) → state < 48 → is_long (state_name state) ≡ false
short_enough state few = let short = short_name state few in le-ltb 255 (length (state_name state)) (omega (arith, short))

shape_is : (row : DrawnRow) → IsRowOf row → has_row_shape 7 8 (row_words row) ≡ true
shape_is row is =
    let input = number_digits row.number ++ row.asked in
    let asked = is.asked.sized in
    let literals : is_row_text input ≡ true =
    list_all-append is_literal (number_digits row.number) row.asked ∙ ap₂ (λ a b. a && b) (digits_are row.number is.number) is.asked.literals in
    let seven : (length input == 7) ≡ true = rw asked refl in
    let eight : (length row.outputs == 8) ≡ true = rw is.outputs.sized refl in
    let name : not (bytes_eq (state_name row.state) (codes "-")) ≡ true = refl in
    ap₂ (λ a b. a && b)
    (ap₂ (λ a b. a && b) (ap₂ (λ a b. a && b) seven literals) (ap₂ (λ a b. a && b) eight is.outputs.literals))
    name

limit_none : (count : ℕ) (states : List (List ℕ)) (rows : ℕ) (number : ℕ) (row : DrawnRow) → IsRowOf row → rows ≤ 192 → length states ≤ 384
    → row_limit rows states (line_at number row) ≡ None
limit_none count states rows number row is few some =
    let under : nat_le 16384 rows ≡ false = lt-leb 16384 rows (omega arith) in
    let first = one_more states (state_name row.state) in
    let second = one_more (with_text states (state_name row.state)) (state_name row.next) in
    let one : nat_lt 4096 (length (with_text states (state_name row.state))) ≡ false = le-ltb 4096 (length (with_text states (state_name row.state))) (omega (arith, first)) in
    let two : nat_lt 4096 (length (with_text (with_text states (state_name row.state)) (state_name row.next))) ≡ false =
    le-ltb 4096 (length (with_text (with_text states (state_name row.state)) (state_name row.next))) (omega (arith, first, second)) in
    rw (under, short_enough row.state is.state, short_enough row.next is.next, one, two) refl

row_clean : (inputs outputs : TextLine) (before : List TextLine) (count number : ℕ) (row : DrawnRow) → IsRowOf row → count < 192
    → count_in Inputs before ≡ Some 7 → count_in Outputs before ≡ Some 8 → IsBehind inputs outputs before count
    → fault_behind before (line_at number row) ≡ None
row_clean inputs outputs before count number row is few i o behind =
    let rows = behind.rows in
    let states = behind.states in
    rw (row_kind number row, i, o, shape_is row is) (limit_none count (states_of_lines before) (length (rows_of before)) number row is (omega (arith, rows)) (omega (arith, states)))

pub rows_clean : (inputs outputs : TextLine) (before : List TextLine) (count number : ℕ) (rows : List DrawnRow) → Each IsRowOf rows → count + length rows ≤ 192
    → option_map number_in (Some inputs) ≡ Some 7 → option_map number_in (Some outputs) ≡ Some 8 → IsBehind inputs outputs before count
    → first_fault_behind fault_behind before (lines_at number rows) ≡ None
rows_clean inputs outputs before count number [] each few i o behind = refl
rows_clean inputs outputs before count number (row ∷ rows) each few i o behind =
    let line = line_at number row in
    let clean = row_clean inputs outputs before count number row each.0 (omega arith) (ap (option_map number_in) behind.inputs_line ∙ i) (ap (option_map number_in) behind.outputs_line ∙ o) behind in
    ap (λ f. fault_or f line (first_fault_behind fault_behind (before ++ line ∷ []) (lines_at (number + 1) rows))) clean
    ∙ rows_clean inputs outputs (before ++ line ∷ []) (count + 1) (number + 1) rows each.1 (omega arith) i o (behind_more inputs outputs before count number row behind)
