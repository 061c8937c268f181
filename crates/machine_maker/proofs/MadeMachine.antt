-- The text of a number denotes a machine that nothing refuses.
use Rattle.std.proofs.Common.{◌≡◌, refl, arith, ℕ, suc, ◌+◌, ◌*◌, ◌<◌, ◌≤◌, Bool, true, false, cond, not, ◌&&◌, ◌==◌, nat_lt, List, [], ◌∷◌, ◌++◌, codes, take, length, map, Some, None, ap, ap₂, sym, ◌∙◌, ne_eqb, inl, inr, subst, fold, slice_range, ◌-◌}
use Rattle.std.specs.List.{list_all, position, position_or_len, AllByRecursion as Each}
use Rattle.std.proofs.Math.Seq.{take-append_seam}
use Rattle.std.proofs.lemmas.Bool.{false≢true, lt-ltb, le-ltb, cases_eq}
use Rattle.std.proofs.lemmas.List.{length-append, length-map}
use Rattle.tsc_cover.specs.Text.{literals_of_text}
use Rattle.tsc_text.specs.Lines.{lines_of}
use Rattle.tsc_text.specs.TextLine.{TextLine}
use Rattle.tsc_text.specs.Section.{end_of, is_end_line, section_of, section_to, section_lines}
use Rattle.tsc_text.specs.declared.section.Section.{Section}
use Rattle.tsc_text.specs.declared.section.End.TheVariants.{Kiss}
use Rattle.tsc_text.specs.Written.{numbered}
use Rattle.fault_secure.specs.Logic.{Transition}
use Rattle.tsc_net.specs.Names.{find_text, has_text, place_of_text}
use Rattle.tsc_net.specs.Overlap.{inputs_meet, overlap, share_state}
use Rattle.tsc_net.proofs.NameLemmas.{find-there, place_within}
use Rattle.kiss_read.specs.Conflict.{clash_or, conflict, first_clash, first_clash_behind}
use Rattle.kiss_read.specs.Selections.{line_of, rows_of, states_of_lines, with_states}
use Rattle.kiss_read.specs.RowText.{transition_at}
use Rattle.kiss_read.specs.Faults.{first_fault}
use Rattle.kiss_read.specs.Refusal.{clash_refusal, conflict_refusal, first_refusal, names_refusal, refusal, reset_refusal, rows_refusal, table_refusal}
use Rattle.kiss_read.specs.TableText.{machine_text, reset_of, table_text}
use Rattle.kiss_read.specs.declared.kinds.LineKind.TheVariants.{Reset, InputNames, OutputNames}
use Rattle.machine_maker.specs.Drawn.{DrawnRow, generator, rows_of_number}
use Rattle.machine_maker.specs.MadeText.{made_text, number_digits, state_name}
use Rattle.machine_maker.specs.MadeLines.{end_line, made_lines, written_row}
use Rattle.machine_maker.specs.MadeMachine.{IsMade, lines_in, names_state_below, section_in}
use Rattle.machine_maker.proofs.RowFacts.{IsRowOf, each_more, rows_are, rows_count}
use Rattle.machine_maker.proofs.MadeLines.{made_bytes, read_lines}
use Rattle.machine_maker.proofs.MadeStates.{Placed, are_placed, count_states, same_state}
use Rattle.machine_maker.proofs.MadeRows.{IsBehind, all_rows, known, line_at, lines_at, none_of, row_goes_on, rows_clean}
use Rattle.tsc_text.proofs.AllowedTexts.{numbered-append}
use Rattle.tsc_bits.proofs.Bools.{and-false}

-- ---- the section

-- the lines of inputs and of outputs, and the one at the end
abbrev first : TextLine
first = record { number = 1; is_plan = false; words = codes ".i" ∷ codes "7" ∷ [] }

abbrev second : TextLine
second = record { number = 2; is_plan = false; words = codes ".o" ∷ codes "8" ∷ [] }

abbrev last : ℕ → TextLine
last number = record { number = number; is_plan = false; words = codes ".e" ∷ [] }

-- the lines of the section
abbrev machine : List DrawnRow → List TextLine
machine rows = first ∷ second ∷ lines_at 3 rows

lines_are : (rows : List DrawnRow) → numbered 1 (made_lines rows) ≡ machine rows ++ last (3 + length (map written_row rows)) ∷ []
lines_are rows = ap (λ l. first ∷ second ∷ l) (numbered-append 3 (map written_row rows) (end_line ∷ []))

length_lines : (number : ℕ) (rows : List DrawnRow) → length (lines_at number rows) ≡ length rows
length_lines number [] = refl
length_lines number (row ∷ rows) = ap suc (length_lines (number + 1) rows)

end_at : (number : ℕ) (rows : List DrawnRow) (more : ℕ)
    → position_or_len (is_end_line Kiss) (lines_at number rows ++ last more ∷ []) ≡ length rows
end_at number [] more = refl
end_at number (row ∷ rows) more =
    ap (λ b. cond (not b) (1 + position_or_len (is_end_line Kiss) (lines_at (number + 1) rows ++ last more ∷ [])) 0) (row_goes_on number row)
    ∙ ap (λ n. 1 + n) (end_at (number + 1) rows more) ∙ (let e : 1 + length rows ≡ suc (length rows) = omega arith in e)

section_is : (rows : List DrawnRow) (more : ℕ)
    → section_of (machine rows ++ last more ∷ []) 0 Kiss ≡ record { first = 0; past = length (machine rows); next = length (machine rows ++ last more ∷ []) }
section_is rows more =
    let lines = machine rows ++ last more ∷ [] in
    let sized = length_lines 3 rows in
    let longer = length-append (machine rows) (last more ∷ []) in
    let past : end_of lines 0 Kiss ≡ length (machine rows) = (let e = end_at 3 rows more in
    let two : end_of lines 0 Kiss ≡ 0 + (1 + (1 + position_or_len (is_end_line Kiss) (lines_at 3 rows ++ last more ∷ []))) = refl in omega (arith, e, two, sized)) in
    let inside : nat_lt (length (machine rows)) (length lines) ≡ true = lt-ltb (length (machine rows)) (length lines) (omega (arith, longer)) in
    let next : length (machine rows) + 1 ≡ length lines = omega (arith, longer) in
    ap (section_to lines 0) past
    ∙ (ap (λ b. record { first = 0; past = length (machine rows); next = cond b (length (machine rows) + 1) (length (machine rows)) }) inside
    ∙ ap (λ n. record { first = 0; past = length (machine rows); next = n }) next)

-- ---- no two rows conflict

-- four cases of a number below four
four : (P : ℕ → Type 0) (n : ℕ) → n < 4 → P 0 → P 1 → P 2 → P 3 → P n
four P n few p0 p1 p2 p3 = elim (cases_eq n 0) [
  | inl is ↦ subst P (sym is) p0
  | inr n0 ↦ elim (cases_eq n 1) [
    | inl is ↦ subst P (sym is) p1
    | inr n1 ↦ elim (cases_eq n 2) [
      | inl is ↦ subst P (sym is) p2
      | inr n2 ↦ (let is : 3 ≡ n = omega arith in subst P is p3)
    ]
  ]
]

-- the inputs of two rows of a state don't meet
abbrev Apart : List ℕ → List ℕ → ℕ → ℕ → Type 0
Apart a b n m = (n ≡ m → ⊥) → inputs_meet (literals_of_text (number_digits n ++ a)) (literals_of_text (number_digits m ++ b)) ≡ false

apart : (a b : List ℕ) (n m : ℕ) → n < 4 → m < 4 → Apart a b n m
apart a b n m few less =
    four (λ n. Apart a b n m) n few
    (four (Apart a b 0) m less (λ d. absurd (d refl)) (λ d. refl) (λ d. refl) (λ d. refl))
    (four (Apart a b 1) m less (λ d. refl) (λ d. absurd (d refl)) (λ d. refl) (λ d. refl))
    (four (Apart a b 2) m less (λ d. refl) (λ d. refl) (λ d. absurd (d refl)) (λ d. refl))
    (four (Apart a b 3) m less (λ d. refl) (λ d. refl) (λ d. refl) (λ d. absurd (d refl)))

-- a transition is that of a drawn row that stands before a place, and its state is among these
record IsEarlier (states : List (List ℕ)) (place : ℕ) (t : Transition) : Type 0 where
  row : DrawnRow
  is : IsRowOf row
  before : 4 * row.state + row.number < place
  stands : has_text states (state_name row.state) ≡ true
  from : t.from ≡ find_text states (state_name row.state)
  input : t.input ≡ literals_of_text (number_digits row.number ++ row.asked)

states_differ : (states : List (List ℕ)) (q r : ℕ) → q < 48 → r < 48 → has_text states (state_name q) ≡ true → has_text states (state_name r) ≡ true
    → (q ≡ r → ⊥) → share_state (find_text states (state_name q)) (find_text states (state_name r)) ≡ false
states_differ states q r few less a b d =
    ap₂ share_state (find-there states (state_name q) a) (find-there states (state_name r) b)
    ∙ ne_eqb (place_of_text states (state_name q)) (place_of_text states (state_name r)) (λ e. d (same_state states q r few less a b e))

no_overlap : (states : List (List ℕ)) (reset number place : ℕ) (row : DrawnRow) (t : Transition) → IsRowOf row → 4 * row.state + row.number ≡ place
    → has_text states (state_name row.state) ≡ true → IsEarlier states place t
    → overlap (transition_at states reset (line_at number row)) t ≡ false
no_overlap states reset number place row t is at there earlier =
    let other = earlier.row in
    elim (cases_eq row.state other.state) [
      | inl same ↦ (
          let before = earlier.before in
          let differ : row.number ≡ other.number → ⊥ = λ e. omega (arith, before, at, same, e) in
          ap (λ b. share_state (find_text states (state_name row.state)) t.from && b)
          (ap (inputs_meet (literals_of_text (number_digits row.number ++ row.asked))) earlier.input
          ∙ apart row.asked other.asked row.number other.number is.number earlier.is.number differ)
          ∙ and-false (share_state (find_text states (state_name row.state)) t.from))
      | inr differ ↦
          ap (λ b. b && inputs_meet (literals_of_text (number_digits row.number ++ row.asked)) t.input)
          (ap (share_state (find_text states (state_name row.state))) earlier.from
          ∙ states_differ states row.state other.state is.state earlier.is.state there earlier.stands differ)
    ]

nowhere : {A : Type 0} (p : A → Bool) (xs : List A) → Each (λ x. p x ≡ false) xs → position_or_len p xs ≡ length xs
nowhere p [] each = refl
nowhere p (x ∷ xs) each =
    ap (λ b. cond (not b) (1 + position_or_len p xs) 0) each.0 ∙ ap (λ n. 1 + n) (nowhere p xs each.1) ∙ (let e : 1 + length xs ≡ suc (length xs) = omega arith in e)

no_place : {A : Type 0} (p : A → Bool) (xs : List A) → Each (λ x. p x ≡ false) xs → position p xs ≡ None
no_place p xs each =
    let none = nowhere p xs each in
    ap (λ b. cond b (Some (position_or_len p xs)) None) (le-ltb (position_or_len p xs) (length xs) (omega (arith, none)))

each_by : {A : Type 0} (P Q : A → Type 0) → ((x : A) → P x → Q x) → (xs : List A) → Each P xs → Each Q xs
each_by P Q so [] each = tt
each_by P Q so (x ∷ xs) each = (so x each.0, each_by P Q so xs each.1)

no_conflict : (later earlier : Transition) → overlap later earlier ≡ false → conflict later earlier ≡ false
no_conflict later earlier e = ap (λ b. b && not (later.next == earlier.next && Rattle.fault_secure.specs.FaultSecure.equal_bits later.outputs earlier.outputs)) e

no_clash : (states : List (List ℕ)) (reset number place : ℕ) (before : List Transition) (rows : List DrawnRow) → Each IsRowOf rows → Placed place rows
    → Each (λ row. has_text states (state_name row.state) ≡ true) rows → Each (IsEarlier states place) before
    → first_clash_behind before (map (transition_at states reset) (lines_at number rows)) ≡ None
unfolding Placed
no_clash states reset number place before [] each placed there earlier = refl
no_clash states reset number place before (row ∷ rows) each placed there earlier =
    let t = transition_at states reset (line_at number row) in
    let at : 4 * row.state + row.number ≡ place = (let q = placed.0 in let r = placed.1 in omega (arith, q, r)) in
    let P : Transition → Type 0 = IsEarlier states place in
    let none : position (conflict t) before ≡ None = no_place (conflict t) before (
    each_by P (λ x. conflict t x ≡ false) (λ x is. no_conflict t x (no_overlap states reset number place row x each.0 at there.0 is)) before earlier) in
    let later : Transition → Type 0 = IsEarlier states (place + 1) in
    let here : IsEarlier states (place + 1) t = record { row = row; is = each.0; before = omega arith; stands = there.0; from = refl; input = refl } in
    let so : (x : Transition) → P x → later x = λ x is. record {
      row = is.row;
      is = is.is;
      before = (let b = is.before in omega (arith, b));
      stands = is.stands;
      from = is.from;
      input = is.input;
    } in
    ap (λ o. clash_or o (length before) (first_clash_behind (before ++ t ∷ []) (map (transition_at states reset) (lines_at (number + 1) rows)))) none
    ∙ no_clash states reset (number + 1) (place + 1) (before ++ t ∷ []) rows each.1 placed.2 there.1 (each_more later before t (each_by P later so before earlier) here)

-- ---- nothing refuses the lines

begins : IsBehind first second (first ∷ second ∷ []) 0
begins = record { inputs_line = refl; outputs_line = refl; rows = omega arith; states = omega arith }

clean : (rows : List DrawnRow) → Each IsRowOf rows → length rows ≤ 192 → first_fault (machine rows) ≡ None
clean rows each few = rows_clean first second (first ∷ second ∷ []) 0 3 rows each (omega arith) refl refl begins

no_names : (rows : List DrawnRow) → names_refusal (machine rows) ≡ None
no_names rows = rw (none_of InputNames 3 rows refl, none_of OutputNames 3 rows refl) refl

some_states : (states : List (List ℕ)) (text : List ℕ) → has_text states text ≡ true → rows_refusal states ≡ None
some_states [] text e = absurd (false≢true e)
some_states (state ∷ states) text e = refl

states_are : (rows : List DrawnRow) → states_of_lines (machine rows) ≡ fold with_states [] (lines_at 3 rows)
states_are rows = ap (fold with_states []) (all_rows 3 rows)

some_rows : (states : List (List ℕ)) (rows : List DrawnRow) → 0 < length rows → Each (λ row. has_text states (state_name row.state) ≡ true) rows → rows_refusal states ≡ None
some_rows states [] some there = let none : ⊥ = omega arith in absurd none
some_rows states (row ∷ rows) some there = some_states states (state_name row.state) there.0

are_known : (rows : List DrawnRow) → Each (λ row. has_text (states_of_lines (machine rows)) (state_name row.state) ≡ true) rows
are_known rows =
    let P : List (List ℕ) → Type 0 = λ states. Each (λ row. has_text states (state_name row.state) ≡ true) rows in
    subst P (sym (states_are rows)) (known 3 [] rows)

module _ (rows : List DrawnRow) (each : Each IsRowOf rows) (count : length rows ≡ 192) (placed : Placed 0 rows) where
  transitions : map (transition_at (states_of_lines (machine rows)) (reset_of (machine rows))) (rows_of (machine rows))
      ≡ map (transition_at (states_of_lines (machine rows)) (reset_of (machine rows))) (lines_at 3 rows)
  transitions = ap (map (transition_at (states_of_lines (machine rows)) (reset_of (machine rows)))) (all_rows 3 rows)

  unclashed : first_clash (machine_text (machine rows)).table.rows ≡ None
  unclashed =
      ap first_clash transitions
      ∙ no_clash (states_of_lines (machine rows)) (reset_of (machine rows)) 3 0 [] rows each placed (are_known rows) tt

  table_none : table_refusal (machine rows) ≡ None
  table_none =
      let states = states_of_lines (machine rows) in
      let made = machine_text (machine rows) in
      ap (λ r. first_refusal r (first_refusal (reset_refusal states (line_of Reset (machine rows))) (conflict_refusal made)))
      (some_rows states rows (omega (arith, count)) (are_known rows))
      ∙ (ap (λ o. first_refusal (reset_refusal states o) (conflict_refusal made)) (none_of Reset 3 rows refl)
      ∙ ap (clash_refusal made.lines) unclashed)

  unrefused : refusal (machine rows) ≡ None
  unrefused = rw (clean rows each (omega (arith, count)), no_names rows, table_none) refl

  table_rows : length (table_text (machine rows)).rows ≡ 192
  table_rows =
      length-map (rows_of (machine rows)) (transition_at (states_of_lines (machine rows)) (reset_of (machine rows)))
      ∙ (ap (λ (l : List TextLine). length l) (all_rows 3 rows) ∙ (length_lines 3 rows ∙ count))

  all_states : length (states_of_lines (machine rows)) ≡ 48
  all_states = ap (λ (l : List (List ℕ)). length l) (states_are rows) ∙ count_states 3 rows each count placed

all_named : (states : List (List ℕ)) (reset number : ℕ) (rows : List DrawnRow) → length states ≡ 48
    → Each (λ row. has_text states (state_name row.state) ≡ true) rows
    → list_all (λ (row : Transition). names_state_below 48 row.from) (map (transition_at states reset) (lines_at number rows)) ≡ true
all_named states reset number [] sized there = refl
all_named states reset number (row ∷ rows) sized there =
    let within = place_within states (state_name row.state) there.0 in
    ap₂ (λ a b. a && b)
    (ap (names_state_below 48) (find-there states (state_name row.state) there.0) ∙ lt-ltb (place_of_text states (state_name row.state)) 48 (omega (arith, within, sized)))
    (all_named states reset (number + 1) rows sized there.1)

-- the lines of a made text
made_are : (number : ℕ) → lines_of (made_text number) ≡ machine (rows_of_number number) ++ last (3 + length (map written_row (rows_of_number number))) ∷ []
made_are number = read_lines number ∙ lines_are (rows_of_number number)

section_made : (number : ℕ)
    → section_in (made_text number) ≡ record { first = 0; past = length (machine (rows_of_number number)); next = length (lines_of (made_text number)) }
section_made number =
    let rows = rows_of_number number in
    let more : ℕ = 3 + length (map written_row rows) in
    ap (λ lines. section_of lines 0 Kiss) (made_are number)
    ∙ (section_is rows more
    ∙ ap (λ (lines : List TextLine). record { first = 0; past = length (machine rows); next = length lines }) (sym (made_are number)))

whole_slice : (xs ys : List TextLine) → slice_range (xs ++ ys) 0 (length xs) ≡ xs
whole_slice xs ys =
    let e : length xs - 0 ≡ length xs = omega arith in
    ap (λ n. take n (xs ++ ys)) e ∙ take-append_seam xs ys

made_machine : (number : ℕ) → lines_in (made_text number) ≡ machine (rows_of_number number)
made_machine number =
    let rows = rows_of_number number in
    let more : ℕ = 3 + length (map written_row rows) in
    ap (section_lines (lines_of (made_text number))) (section_made number)
    ∙ (ap (λ (lines : List TextLine). slice_range lines 0 (length (machine rows))) (made_are number)
    ∙ whole_slice (machine rows) (last more ∷ []))

-- nothing refuses the made text as a machine, and it has the stated inputs, outputs, rows and states
pub made_is : (number : ℕ) → IsMade (made_text number)
made_is number =
    let rows = rows_of_number number in
    let each = rows_are 192 (generator number) (omega arith) in
    let count = rows_count 192 (generator number) in
    let placed = are_placed 192 (generator number) in
    let at = made_machine number in
    let named : list_all (λ (row : Transition). names_state_below 48 row.from) (table_text (machine rows)).rows ≡ true =
    ap (list_all (λ (row : Transition). names_state_below 48 row.from)) (transitions rows each count placed)
    ∙ all_named (states_of_lines (machine rows)) (reset_of (machine rows)) 3 rows (all_states rows each count placed) (are_known rows) in
    record {
      bytes = made_bytes number;
      lines = ap refusal at ∙ unrefused rows each count placed;
      whole = ap (λ (s : Section). s.next) (section_made number);
      inputs = ap (λ lines. (table_text lines).inputs) at;
      outputs = ap (λ lines. (table_text lines).outputs) at;
      rows = ap (λ lines. length (table_text lines).rows) at ∙ table_rows rows each count placed;
      states = ap (λ lines. length (states_of_lines lines)) at ∙ all_states rows each count placed;
      named = ap (λ lines. list_all (λ (row : Transition). names_state_below 48 row.from) (table_text lines).rows) at ∙ named;
    }
