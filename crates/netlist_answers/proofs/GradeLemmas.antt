-- A text whose faults are graded: its steps, the lines and counts of its grades, its answer, and what is refused of it.
use Rattle.std.proofs.Common.{◌≡◌, ℕ, ◌+◌, ◌<◌, ◌≤◌, ◌^◌, Bool, true, false, cond, if◌then◌else◌, List, [], ◌∷◌, ◌++◌, count_by, drop, length, take, Option, None, Some, refl, sym, ap, ap₂, ◌∙◌, subst, arith}
use Rattle.std.specs.List.{slice_get}
use Rattle.std.proofs.lemmas.List.{drop_more, length-map, length-take, take_more}
use Rattle.std.proofs.lemmas.List.Sums.{count_by-le-length, sum_by-append, sum_by-cons, sum_by-take-drop}
use Rattle.std.proofs.lemmas.Option.{none-some, slice_get_within, get_or_from_slice_get}
use Rattle.tsc_text.specs.TextLine.{TextLine, word_count}
use Rattle.tsc_text.specs.declared.section.Section.{Section}
use Rattle.fault_secure.specs.CodePlan.{CodePlan}
use Rattle.fault_secure.specs.StuckAt.{StuckAt}
use Rattle.tsc_net.specs.NetlistOf.{NetlistOf}
use Rattle.sim_text.specs.StepLines.{all_steps, first_misshapen, is_step_line, step_bits}
use Rattle.grading_laws.specs.Grades.{Grade}
use Rattle.grading_laws.specs.Counts.{AreGrades}
use Rattle.blif_read.specs.declared.kinds.Kind.TheVariants.{AnyPlan}
use Rattle.refusals.specs.declared.refusal.Refusal.{Refusal}
use Rattle.refusals.specs.declared.text_refusal.TextRefusal.{TextRefusal}
use Rattle.commands.specs.declared.sim_words.SimFault.TheVariants.{NoFault}
use Rattle.text_sections.specs.Denoted.{first_any_plan, first_net, first_section, lines_behind}
use Rattle.text_sections.specs.Refused.{IsRefusedBy, first_refusal}
use Rattle.text_sections.proofs.SectionLemmas.{allowed_both, refused_later}
use Rattle.netlist_answers.specs.Answers.{IsGradeListOf}
use Rattle.netlist_answers.specs.GradeText.{grade_line, grade_lines, grade_list}
use Rattle.netlist_answers.specs.Refused.{run_refusal, shape_refusal, sim_lines_refusal}

-- ---- steps

shaped : (b : Bool) (rest : Option ℕ) (number : ℕ) → (if b then rest else Some number) ≡ None → (b ≡ true) × (rest ≡ None)
shaped true rest number none = (refl, none)
shaped false rest number none = absurd (none-some number (sym none))

one_word : (inputs : ℕ) (line : TextLine) → is_step_line inputs line ≡ true → length line.words ≡ 1
one_word inputs line is = grind arith

-- each step has a word
pub few_steps : (inputs : ℕ) (lines : List TextLine) → first_misshapen inputs lines ≡ None → length lines ≤ word_count lines
few_steps inputs [] none = omega arith
few_steps inputs (line ∷ lines) none =
    let parts = shaped (is_step_line inputs line) (first_misshapen inputs lines) line.number none in
    let words : TextLine → ℕ = λ l. length l.words in
    omega (arith, one_word inputs line parts.0, few_steps inputs lines parts.1, sum_by-cons words line lines)

none_shaped : (first : Option ℕ) → shape_refusal first ≡ None → first ≡ None
none_shaped None none = refl
none_shaped (Some line) none = cc

-- so there are fewer steps than words of all lines
pub steps_below : (inputs from : ℕ) (lines : List TextLine) (steps : List (List Bool)) → steps ≡ all_steps inputs (drop from lines)
    → shape_refusal (first_misshapen inputs (drop from lines)) ≡ None → word_count lines < 2 ^ 32 → length steps < 2 ^ 32
steps_below inputs from lines steps are sound few =
    let rest = drop from lines in
    let words : TextLine → ℕ = λ l. length l.words in
    let some = few_steps inputs rest (none_shaped (first_misshapen inputs rest) sound) in
    omega (arith, few, some, sum_by-take-drop words lines from, ap length are, length-map rest (step_bits inputs))

-- ---- the lines

one_more : {X : Type 0} (xs : List X) (place : ℕ) (x : X) → slice_get xs place ≡ Some x → drop place xs ≡ x ∷ drop (place + 1) xs
one_more xs place x found =
    drop_more xs place x (slice_get_within xs place x found) ∙ ap (λ y. y ∷ drop (place + 1) xs) (get_or_from_slice_get xs place x x found)

-- the lines of the faults from a place on: the line of the first, and those of the others
pub grades_next : (net : NetlistOf) (faults : List StuckAt) (grades : List Grade) (place : ℕ) (fault : StuckAt) (grade : Grade)
    → slice_get faults place ≡ Some fault → slice_get grades place ≡ Some grade
    → grade_lines net (drop place faults) (drop place grades) ≡ grade_line net fault grade ++ grade_lines net (drop (place + 1) faults) (drop (place + 1) grades)
grades_next net faults grades place fault grade found graded =
    ap₂ (grade_lines net) (one_more faults place fault found) (one_more grades place grade graded)

-- how many are of a kind, with one grade more
pub counted_more : (kind : Grade → Bool) (grades : List Grade) (place : ℕ) (grade : Grade) → slice_get grades place ≡ Some grade
    → count_by kind (take (place + 1) grades) ≡ count_by kind (take place grades) + count_by kind (grade ∷ [])
counted_more kind grades place grade found =
    let inside : place < length grades = slice_get_within grades place grade found in
    ap (count_by kind) (take_more grades place grade inside ∙ ap (λ g. take place grades ++ g ∷ []) (get_or_from_slice_get grades place grade grade found))
    ∙ sum_by-append (λ g. cond (kind g) 1 0) (take place grades) (grade ∷ [])

-- the first grades are at most as many as come before their end
pub counted_below : (kind : Grade → Bool) (grades : List Grade) (place : ℕ) → count_by kind (take place grades) ≤ place
counted_below kind grades place = omega (arith, count_by-le-length kind (take place grades), length-take place grades)

-- ---- the answer

-- lines that begin with a netlist, and its grades over the steps after it
module _ (lines : List TextLine) (net : NetlistOf) (plan : CodePlan) (section : Section) (is : net ≡ first_net lines) (stated : plan ≡ first_any_plan lines)
    (at : section ≡ first_section lines) where
  pub is_grade_list : (inputs : ℕ) (steps : List (List Bool)) (grades : List Grade) → inputs ≡ net.circuit.inputs → steps ≡ all_steps inputs (drop section.next lines)
      → AreGrades net.circuit plan steps grades → IsGradeListOf lines (grade_list net grades)
  is_grade_list inputs steps grades counted are right =
      let same : steps ≡ all_steps (first_net lines).circuit.inputs (lines_behind lines) =
      are ∙ ap₂ (λ (n : ℕ) (s : Section). all_steps n (drop s.next lines)) (counted ∙ ap (λ n. n.circuit.inputs) is) at in
      let P : NetlistOf → Type 0 = λ n. AreGrades n.circuit plan steps grades in
      let Q : CodePlan → Type 0 = λ p. AreGrades (first_net lines).circuit p steps grades in
      let R : List (List Bool) → Type 0 = λ xs. AreGrades (first_net lines).circuit (first_any_plan lines) xs grades in
      record {
        grades = grades;
        right = subst R same (subst Q stated (subst P is right));
        listed = ap (λ n. grade_list n grades) is;
      }

-- ---- what is refused: the netlist, then a line that is no step's

module _ (lines : List TextLine) (net : NetlistOf) (section : Section) (inputs : ℕ) (is : net ≡ first_net lines) (at : section ≡ first_section lines)
    (counted : inputs ≡ net.circuit.inputs) (sound : first_refusal AnyPlan lines ≡ None) where
  abbrev shape : Option TextRefusal
  shape = shape_refusal (first_misshapen inputs (drop section.next lines))

  abbrev run : Option TextRefusal
  run = run_refusal NoFault (first_net lines) (lines_behind lines)

  same_shape : shape ≡ run
  same_shape = ap₂ (λ (n : ℕ) (s : Section). shape_refusal (first_misshapen n (drop s.next lines))) (counted ∙ ap (λ n. n.circuit.inputs) is) at

  pub refused_steps : (given : Refusal) → IsRefusedBy shape given → IsRefusedBy (sim_lines_refusal NoFault lines) given
  refused_steps given refused =
      let P : Option TextRefusal → Type 0 = λ r. IsRefusedBy r given in
      refused_later (first_refusal AnyPlan lines) run given sound (subst P same_shape refused)

  pub allowed_steps : shape ≡ None → sim_lines_refusal NoFault lines ≡ None
  allowed_steps none = allowed_both (first_refusal AnyPlan lines) run sound (sym same_shape ∙ none)
