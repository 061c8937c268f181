-- The cases of a state: they choose the bits of its answer.
use Rattle.std.proofs.Common.{◌≡◌, ◌↔◌, ℕ, ◌+◌, ◌<◌, ◌≤◌, Bool, true, false, ◌&&◌, ◌||◌, List, [], ◌∷◌, ◌++◌, map, filter, length, count_by, refl, sym, ◌∙◌, ap, ap₂, arith}
use Rattle.std.specs.Prelude.{replicate}
use Rattle.std.specs.List.{AllByRecursion}
use Rattle.std.proofs.lemmas.List.{map-append, length-map, length-append}
use Rattle.std.proofs.lemmas.List.Elements.{recursion_from_All, All-push}
use Rattle.tsc_bits.specs.Bits.{bits_of}
use Rattle.fault_secure.specs.Circuit.{bit}
use Rattle.fault_secure.specs.declared.code.Code.{Code}
use Rattle.fault_secure.specs.Logic.{StateTable, starts_at, applies, answering, IsStateTable}
use Rattle.tsc_net.specs.MachineView.{transition_of, transitions_of}
use Rattle.tsc_net.specs.declared.machine.MachineRow.{MachineRow}
use Rattle.tsc_net.proofs.MachineLemmas.{bits_of-zero}
use Rattle.gate_net.specs.declared.line.Line.{Line}
use Rattle.gate_net.specs.Gates.{GateNetwork, IsLine, AreLines, line_value, line_values}
use Rattle.gate_net.specs.Growth.{Grows}
use Rattle.gate_net.proofs.Kept.{value_kept, line_kept}
use Rattle.state_code.specs.Lines.{rows_at, may_answer}
use Rattle.tsc_bits.specs.Counting.{some_both}
use Rattle.state_code.proofs.Matched.{rows_of_table}
use Rattle.machine_lines.specs.MachineLines.{answer_word}
use Rattle.machine_lines.specs.Cases.{word_of, row_word, case_word, has_one, stands, some_case, IsCaseOf, AreCases, AddsCases, AddsState}
use Rattle.machine_lines.specs.declared.cases.Case.{Case}
use Rattle.machine_lines.specs.declared.widths.Widths.{Widths}
use Rattle.machine_lines.proofs.Words.{output_zero}
use Rattle.machine_lines.proofs.Chosen.{some_both_more, answer_bit, answer_chosen}
use Rattle.machine_lines.proofs.CaseLists.{adds_more, none_more, cases_kept}

some_kept_by : (W : Widths) (a b : GateNetwork) (x s : ℕ → Bool) (place : ℕ) (cases : List Case) → Grows a b → AllByRecursion (IsCaseOf a) cases → some_case W b x s place cases ≡ some_case W a x s place cases
some_kept_by W a b x s place [] grows all = refl
some_kept_by W a b x s place (case ∷ cases) grows all =
    ap₂ (λ (d l : Bool). (has_one W place case && (d && l)) || some_case W b x s place cases) (value_kept a b x s case.decoded grows all.0.0) (value_kept a b x s case.line grows all.0.1)
    ∙ ap (λ (v : Bool). (has_one W place case && stands a x s case) || v) (some_kept_by W a b x s place cases grows all.1)

-- cases keep what they choose in a network that grew
pub some_kept : (W : Widths) (a b : GateNetwork) (x s : ℕ → Bool) (place : ℕ) (cases : List Case) → Grows a b → AreCases a cases → some_case W b x s place cases ≡ some_case W a x s place cases
some_kept W a b x s place cases grows within = some_kept_by W a b x s place cases grows (recursion_from_All _ cases within)

row_bits : (code : Code) (W : Widths) (words : List ℕ) (M : StateTable) (place : ℕ) (rows : List MachineRow) → W.outputs ≡ M.outputs
    → map (λ word. bit word place) (map (row_word code W words) rows) ≡ map (answer_bit code W.checks W.bits words M place) (map (transition_of M.inputs M.outputs) rows)
row_bits code W words M place [] e = refl
row_bits code W words M place (row ∷ rows) e =
    ap₂ (λ (o : ℕ) (bits : List Bool). bit (word_of code W.checks W.bits words (bits_of o row.outputs) row.next) place ∷ bits) e (row_bits code W words M place rows e)

-- the rows that may answer are the table's
pub kept_rows : (M : StateTable) (q : ℕ) (rows : List MachineRow) → transitions_of M.inputs M.outputs rows ≡ M.rows → rows_at M q ≡ map (transition_of M.inputs M.outputs) (filter (may_answer q) rows)
kept_rows M q rows e = ap (filter (λ row. starts_at row.from q)) (sym e) ∙ rows_of_table M.inputs M.outputs q rows

pub kept_count : (M : StateTable) (q : ℕ) (rows : List MachineRow) → transitions_of M.inputs M.outputs rows ≡ M.rows → length (rows_at M q) ≡ length (filter (may_answer q) rows)
kept_count M q rows e = ap length (kept_rows M q rows e) ∙ length-map (filter (may_answer q) rows) (transition_of M.inputs M.outputs)

module _ (code : Code) (W : Widths) (words : List ℕ) (M : StateTable) (q : ℕ) (rows kept : List MachineRow) (same_outputs : W.outputs ≡ M.outputs)
    (table : IsStateTable M) (e : transitions_of M.inputs M.outputs rows ≡ M.rows) (are_kept : kept ≡ filter (may_answer q) rows)
    (old mid new : List Case) (decoded : Line) (lines : List Line) (other : Line) (case : Case)
    (adds : AddsCases W old mid decoded lines (map (row_word code W words) kept)) (sized : length lines ≡ length kept) (pushed : new ≡ mid ++ case ∷ [])
    (at : case.decoded ≡ decoded) (on : case.line ≡ other) (zero : case.outputs ≡ 0) (answers : case_word W case ≡ word_of code W.checks W.bits words (bits_of W.outputs 0) M.reset) where
  -- the cases of the rows and that of no row
  all_added : AddsCases W old new decoded (lines ++ other ∷ []) (map (row_word code W words) kept ++ word_of code W.checks W.bits words (bits_of W.outputs 0) M.reset ∷ [])
  all_added = adds_more W old mid new decoded lines (map (row_word code W words) kept) case other (word_of code W.checks W.bits words (bits_of W.outputs 0) M.reset) adds (sized ∙ sym (length-map kept (row_word code W words))) pushed at on answers

  state_value : (a b : GateNetwork) (x : List Bool) (s : ℕ → Bool) (place : ℕ) → Grows a b → AreCases a old → IsLine a decoded
      → line_values b (bit x) s lines ≡ map (applies q x) (rows_at M q) → ((line_value b (bit x) s other ≡ true) ↔ (answering M q x ≡ []))
      → some_case W b (bit x) s place new ≡ (some_case W a (bit x) s place old || (line_value a (bit x) s decoded && bit (answer_word code W.checks W.bits words M x q) place))
  state_value a b x s place grows were is_line match nothing =
      let none = word_of code W.checks W.bits words (bits_of W.outputs 0) M.reset in
      let at_place = λ (word : List Bool). bit word place in
      let answered = answer_bit code W.checks W.bits words M place in
      let v = line_value b (bit x) s other in
      let d = bit none place in
      let vs = line_values b (bit x) s lines in
      let bs = map at_place (map (row_word code W words) kept) in
      let bits_are : map at_place (map (row_word code W words) kept) ≡ map (answer_bit code W.checks W.bits words M place) (rows_at M q)
      = row_bits code W words M place kept same_outputs
      ∙ ap (λ (list : List MachineRow). map answered (map (transition_of M.inputs M.outputs) list)) are_kept
      ∙ ap (map answered) (sym (kept_rows M q rows e)) in
      let sized' : length (line_values b (bit x) s lines) ≡ length (map at_place (map (row_word code W words) kept))
      = length-map lines (line_value b (bit x) s) ∙ sized ∙ sym (length-map (map (row_word code W words) kept) at_place ∙ length-map kept (row_word code W words)) in
      let chosen : some_both (line_values b (bit x) s (lines ++ other ∷ [])) (map at_place (map (row_word code W words) kept ++ none ∷ [])) ≡ bit (answer_word code W.checks W.bits words M x q) place
      = ap₂ some_both (map-append (line_value b (bit x) s) lines (other ∷ [])) (map-append at_place (map (row_word code W words) kept) (none ∷ []))
      ∙ some_both_more vs bs v d sized'
      ∙ ap₂ (λ (us cs : List Bool). some_both us cs || (v && d)) match bits_are
      ∙ answer_chosen code W.checks W.bits words M place q x v d table nothing
      (ap (λ (ys : List Bool). bit (word_of code W.checks W.bits words ys M.reset) place) (bits_of-zero W.outputs ∙ ap (λ (o : ℕ). replicate o false) same_outputs)) in
      all_added.value b (bit x) s place
      ∙ ap₂ (λ (u t : Bool). u || t) (some_kept W a b (bit x) s place old grows were)
      (ap₂ (λ (u t : Bool). u && t) (value_kept a b (bit x) s decoded grows is_line) chosen)

  state_count : length new ≡ length old + length (rows_at M q) + 1
  state_count =
      omega (arith, all_added.count, length-append (map (row_word code W words) kept) (word_of code W.checks W.bits words (bits_of W.outputs 0) M.reset ∷ []), length-map kept (row_word code W words), ap length are_kept, kept_count M q rows e)

  state_ones : (place : ℕ) → place < W.outputs → count_by (has_one W place) new ≤ count_by (has_one W place) old + length (rows_at M q)
  state_ones place lt =
      let fails : has_one W place case ≡ false = output_zero W.outputs W.checks W.bits case.outputs case.check case.next place zero lt in
      omega (arith, none_more (has_one W place) mid new case pushed fails, adds.ones place, length-map kept (row_word code W words), ap length are_kept, kept_count M q rows e)

  -- the state's cases were added
  pub state_added : (a b : GateNetwork) → Grows a b → AreCases a old → IsLine a decoded → AreLines b lines → IsLine b other
      → ((x : List Bool) (s : ℕ → Bool) → line_values b (bit x) s lines ≡ map (applies q x) (rows_at M q))
      → ((x : List Bool) (s : ℕ → Bool) → (line_value b (bit x) s other ≡ true) ↔ (answering M q x ≡ [])) → AddsState code W words M q decoded a b old new
  state_added a b grows were is_line are is_other match nothing = record {
    within = all_added.within b (cases_kept a b old grows were) (line_kept a b decoded grows is_line) (All-push (IsLine b) lines other are is_other);
    value = λ x s place. state_value a b x s place grows were is_line (match x s) (nothing x s);
    count = state_count;
    ones = state_ones;
  }
