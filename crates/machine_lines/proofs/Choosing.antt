-- What a choice among cases gives, and how much it adds.
use Rattle.std.proofs.Common.{◌≡◌, ℕ, ◌+◌, ◌*◌, ◌<◌, ◌≤◌, Bool, true, false, cond, ◌&&◌, ◌||◌, List, [], ◌∷◌, ◌++◌, map, filter, length, count_by, get_or, refl, sym, ◌∙◌, ap, ap₂, subst, arith}
use Rattle.std.specs.List.{range_with_len, sum_by, AllByRecursion}
use Rattle.std.proofs.lemmas.List.{length-map, take_all}
use Rattle.std.proofs.lemmas.List.Elements.{recursion_from_All, All-from_recursion, All-filter}
use Rattle.std.proofs.lemmas.List.Sums.{length-filter, count_by-le-length, sum_by_more, sum_by-take-le}
use Rattle.std.proofs.lemmas.List.FromFn.{length-range_with_len, get_or-range_with_len, map-range_with_len_more}
use Rattle.gate_net.specs.declared.line.Line.{Line}
use Rattle.gate_net.specs.Gates.{GateNetwork, IsLine, AreLines, line_values}
use Rattle.gate_net.specs.Growth.{Grows, Computes, ComputesAll}
use Rattle.gate_net.proofs.Kept.{bits_pushed}
use Rattle.state_code.specs.Lines.{isnt_zero, select_gates}
use Rattle.tsc_bits.specs.Counting.{some_both}
use Rattle.machine_lines.specs.Cases.{has_one, stands, some_case, IsCaseOf, AreCases, choices_before}
use Rattle.machine_lines.specs.declared.cases.Case.{Case}
use Rattle.machine_lines.specs.declared.widths.Widths.{Widths}
use Rattle.machine_lines.proofs.StateCases.{some_kept}

-- both lines of some case are 1
abbrev both_lines : GateNetwork → (ℕ → Bool) → (ℕ → Bool) → List Case → Bool
both_lines G x s cases = some_both (line_values G x s (map (λ case. case.decoded) cases)) (line_values G x s (map (λ case. case.line) cases))

both_cond : (G : GateNetwork) (x s : ℕ → Bool) (b : Bool) (case : Case) (kept : List Case) (rest : Bool) → both_lines G x s kept ≡ rest → both_lines G x s (cond b (case ∷ kept) kept) ≡ ((b && stands G x s case) || rest)
both_cond G x s true case kept rest e = ap (λ (v : Bool). stands G x s case || v) e
both_cond G x s false case kept rest e = e

-- the choice among the cases with a 1 at the place
pub choice_is : (W : Widths) (G : GateNetwork) (x s : ℕ → Bool) (place : ℕ) (cases : List Case) → both_lines G x s (filter (has_one W place) cases) ≡ some_case W G x s place cases
choice_is W G x s place [] = refl
choice_is W G x s place (case ∷ cases) =
    both_cond G x s (has_one W place case) case (filter (has_one W place) cases) (some_case W G x s place cases) (choice_is W G x s place cases)

none_left : (cases : List Case) → length cases ≡ 0 → cases ≡ []
none_left [] e = refl
none_left (case ∷ cases) e = absurd (omega (arith, e))

-- no case has a 1 there
pub choice_none : (W : Widths) (G : GateNetwork) (place : ℕ) (cases chosen : List Case) (zero : Line) → Computes G G (λ x s. false) zero → chosen ≡ filter (has_one W place) cases → length chosen ≡ 0
    → Computes G G (λ x s. some_case W G x s place cases) zero
choice_none W G place cases chosen zero h e none = record {
  value = λ x s. h.value x s ∙ ap (both_lines G x s) (sym (none_left chosen none) ∙ e) ∙ choice_is W G x s place cases;
  within = h.within;
  grows = h.grows;
}

-- what was chosen
pub choice_made : (W : Widths) (G new : GateNetwork) (place : ℕ) (cases chosen : List Case) (decoded lines : List Line) (line : Line) → chosen ≡ filter (has_one W place) cases
    → decoded ≡ map (λ case. case.decoded) chosen → lines ≡ map (λ case. case.line) chosen → Computes G new (λ x s. some_both (line_values G x s decoded) (line_values G x s lines)) line
    → Computes G new (λ x s. some_case W G x s place cases) line
choice_made W G new place cases chosen decoded lines line e d l h = record {
  value = λ x s.
      h.value x s
      ∙ ap₂ (λ (ds ls : List Line). some_both (line_values G x s ds) (line_values G x s ls)) (d ∙ ap (map (λ case. case.decoded)) e) (l ∙ ap (map (λ case. case.line)) e)
      ∙ choice_is W G x s place cases;
  within = h.within;
  grows = h.grows;
}

are_by : (G : GateNetwork) (f : Case → Line) (cases : List Case) → AllByRecursion (λ case. IsLine G (f case)) cases → AllByRecursion (IsLine G) (map f cases)
are_by G f [] all = tt
are_by G f (case ∷ cases) all = (all.0, are_by G f cases all.1)

chosen_are : (W : Widths) (G : GateNetwork) (place : ℕ) (cases chosen : List Case) (lines : List Line) (f : Case → Line) → ((case : Case) → IsCaseOf G case → IsLine G (f case)) → AreCases G cases → chosen ≡ filter (has_one W place) cases
    → lines ≡ map f chosen → AreLines G lines
chosen_are W G place cases chosen lines f part are e l =
    subst (AreLines G) (sym (l ∙ ap (map f) e))
    (All-from_recursion (IsLine G) (map f (filter (has_one W place) cases)) (are_by G f (filter (has_one W place) cases)
    (recursion_from_All (λ case. IsLine G (f case)) (filter (has_one W place) cases) (All-filter (has_one W place) (λ case. IsLine G (f case)) cases (λ k d lt. part (get_or cases k d) (are k d lt))))))

pub chosen_decoded : (W : Widths) (G : GateNetwork) (place : ℕ) (cases chosen : List Case) (lines : List Line) → AreCases G cases → chosen ≡ filter (has_one W place) cases → lines ≡ map (λ case. case.decoded) chosen → AreLines G lines
chosen_decoded W G place cases chosen lines are e l = chosen_are W G place cases chosen lines (λ case. case.decoded) (λ case is. is.0) are e l

pub chosen_lines : (W : Widths) (G : GateNetwork) (place : ℕ) (cases chosen : List Case) (lines : List Line) → AreCases G cases → chosen ≡ filter (has_one W place) cases → lines ≡ map (λ case. case.line) chosen → AreLines G lines
chosen_lines W G place cases chosen lines are e l = chosen_are W G place cases chosen lines (λ case. case.line) (λ case is. is.1) are e l

select_few : (G : GateNetwork) (lines : List Line) → 0 < length lines → select_gates G lines ≤ 2 * length lines
select_few G [] lt = absurd (omega (arith, lt))
select_few G (line ∷ lines) lt = omega (arith, count_by-le-length (isnt_zero G) (line ∷ lines))

-- a choice adds at most two gates for each case with a 1 there
pub chosen_few : (W : Widths) (G : GateNetwork) (place : ℕ) (cases chosen : List Case) (lines : List Line) → chosen ≡ filter (has_one W place) cases → lines ≡ map (λ case. case.line) chosen
    → (length lines ≡ count_by (has_one W place) cases) × (length chosen ≡ length lines)
chosen_few W G place cases chosen lines e l =
    let all = length-filter (has_one W place) cases in
    let same_length = ap length l ∙ length-map chosen (λ case. case.line) in
    (same_length ∙ ap length e ∙ all, sym same_length)

pub choice_few : (W : Widths) (G : GateNetwork) (place : ℕ) (cases chosen : List Case) (lines : List Line) → chosen ≡ filter (has_one W place) cases → lines ≡ map (λ case. case.line) chosen → (length chosen ≡ 0 → ⊥)
    → select_gates G lines ≤ 2 * count_by (has_one W place) cases
choice_few W G place cases chosen lines e l some =
    let counts = chosen_few W G place cases chosen lines e l in
    omega (arith, select_few G lines (omega (arith, counts.1, some)), counts.0)

pub choice_room : (W : Widths) (G : GateNetwork) (place : ℕ) (cases chosen : List Case) (lines : List Line) → chosen ≡ filter (has_one W place) cases → lines ≡ map (λ case. case.line) chosen
    → 2 * count_by (isnt_zero G) lines ≤ 2 * count_by (has_one W place) cases
choice_room W G place cases chosen lines e l =
    let counts = chosen_few W G place cases chosen lines e l in
    omega (arith, counts.0, count_by-le-length (isnt_zero G) lines)

-- the choices so far and one more
pub choices_more : (W : Widths) (cases : List Case) (i : ℕ) → i < W.outputs + W.checks + W.bits
    → (choices_before W cases (i + 1) ≡ choices_before W cases i + 2 * count_by (has_one W i) cases) × (choices_before W cases (i + 1) ≤ choices_before W cases (W.outputs + W.checks + W.bits))
choices_more W cases i lt =
    let total = W.outputs + W.checks + W.bits in
    let f : ℕ → ℕ = λ place. 2 * count_by (has_one W place) cases in
    let places = range_with_len 0 (W.outputs + W.checks + W.bits) in
    let long = length-range_with_len 0 (W.outputs + W.checks + W.bits) in
    let at : get_or (range_with_len 0 (W.outputs + W.checks + W.bits)) i 0 ≡ i = get_or-range_with_len 0 total i 0 lt ∙ omega arith in (
      sum_by_more f places i 0 (omega (arith, long, lt)) ∙ ap (λ (place : ℕ). choices_before W cases i + 2 * count_by (has_one W place) cases) at,
      subst (λ (list : List ℕ). choices_before W cases (i + 1) ≤ sum_by f list) (sym (take_all total places (omega (arith, long)))) (sum_by-take-le f places (i + 1)),
    )

-- a place's line more
pub place_pushed : (W : Widths) (start here new : GateNetwork) (cases : List Case) (lines lines' : List Line) (place : ℕ) (line : Line) → Grows start here → AreCases start cases → AreLines here lines
    → ((x s : ℕ → Bool) → line_values here x s lines ≡ map (λ p. some_case W start x s p cases) (range_with_len 0 place))
    → Computes here new (λ x s. some_case W here x s place cases) line → lines' ≡ lines ++ line ∷ []
    → ComputesAll start new (λ x s. map (λ p. some_case W start x s p cases) (range_with_len 0 (place + 1))) lines'
place_pushed W start here new cases lines lines' place line grows are within made added e =
    let pushed = bits_pushed start here new lines lines' line (λ (x s : ℕ → Bool). some_case W here x s place cases) grows within added e in
    record {
      values = λ x s.
          pushed.values x s
          ∙ ap₂ (λ (vs : List Bool) (b : Bool). vs ++ b ∷ []) (made x s) (some_kept W start here x s place cases grows are)
          ∙ sym (map-range_with_len_more (λ p. some_case W start x s p cases) 0 place place (omega arith));
      within = pushed.within;
      grows = pushed.grows;
    }
