-- The list of what a cover states, beside what is said of each of these functions.
use Rattle.std.proofs.Common.{◌≡◌, ℕ, ◌+◌, ◌<◌, ◌≤◌, Bool, true, false, cond, IsTrue, List, [], ◌∷◌, map, length, slice_index_or, refl, sym, arith}
use Rattle.std.specs.List.{AllByRecursion, range_with_len, flat_map}
use Rattle.std.proofs.lemmas.Bool.{false≢true}
use Rattle.tsc_cover.specs.Cover.{Literal, CoverTable, asks_for, literal_at}
use Rattle.diagrams.specs.Cofactors.{Function, IsCofactorOfOne}
use Rattle.diagrams.specs.Building.{DiagramState}
use Rattle.cover_diagrams.specs.Covering.{HasRow, negation, and_so_far, or_so_far, pin_function, IsCoverKept, IsCoverBuilt}
use Rattle.circuit_diagrams.specs.Stated.{read_negation, row_functions, cover_functions}
use Rattle.circuit_diagrams.specs.Steps.{AreKept, AreBuilt}
use Rattle.circuit_diagrams.proofs.Lists.{each-append, each-front, each-back, each-range, range-at, each-range-flat, range-flat-at, each-flat, flat-at}

abbrev ands : List Function → List Literal → List Function
ands ps row = map (and_so_far row ps) (range_with_len 0 (length row + 1))

abbrev negations : List Function → List Literal → List Function
negations ps row = flat_map (read_negation row ps) (range_with_len 0 (length row))

abbrev of_rows : CoverTable → List Function → List Function
of_rows c ps = flat_map (row_functions ps) c.rows

abbrev ors : CoverTable → List Function → List Function
ors c ps = map (or_so_far c.rows ps) (range_with_len 0 (length c.rows + 1))

abbrev off : CoverTable → List Function → List Function
off c ps = cond c.on [] (negation (or_so_far c.rows ps (length c.rows)) ∷ [])

module _ (Q : Function → Type 0) where
  one_read : (f : Function) (b : Bool) → AllByRecursion Q (cond b (f ∷ []) []) → b ≡ true → Q f
  one_read f true all e = all.0
  one_read f false all e = absurd (false≢true e)

  read_one : (f : Function) (b : Bool) → (b ≡ true → Q f) → AllByRecursion Q (cond b (f ∷ []) [])
  read_one f true h = (h refl, tt)
  read_one f false h = tt

  unless : (f : Function) (b : Bool) → AllByRecursion Q (cond b [] (f ∷ [])) → b ≡ false → Q f
  unless f true all e = absurd (false≢true (sym e))
  unless f false all e = all.0

  where_not : (f : Function) (b : Bool) → (b ≡ false → Q f) → AllByRecursion Q (cond b [] (f ∷ []))
  where_not f true h = tt
  where_not f false h = (h refl, tt)

  row_negated : (ps : List Function) (row : List Literal) → AllByRecursion Q (row_functions ps row) → (i : ℕ) → i < length row → IsTrue (asks_for false (literal_at row i)) → Q (negation (pin_function ps i))
  row_negated ps row all i inside asked =
      one_read (negation (pin_function ps i)) (asks_for false (literal_at row i))
      (range-flat-at Q (read_negation row ps) 0 (length row) i (each-front Q (negations ps row) (ands ps row) all) (omega arith) (omega arith)) asked

  row_joined : (ps : List Function) (row : List Literal) → AllByRecursion Q (row_functions ps row) → (i : ℕ) → i ≤ length row → Q (and_so_far row ps i)
  row_joined ps row all i inside = range-at Q (and_so_far row ps) 0 (length row + 1) i (each-back Q (negations ps row) (ands ps row) all) (omega arith) (omega arith)

  each_of_row : (ps : List Function) (row : List Literal) → ((i : ℕ) → i < length row → IsTrue (asks_for false (literal_at row i)) → Q (negation (pin_function ps i))) →
      ((i : ℕ) → i ≤ length row → Q (and_so_far row ps i)) → AllByRecursion Q (row_functions ps row)
  each_of_row ps row negated joined =
      each-append Q (negations ps row) (ands ps row)
      (each-range-flat Q (read_negation row ps) 0 (length row) (λ i low high. read_one (negation (pin_function ps i)) (asks_for false (literal_at row i)) (negated i (omega arith))))
      (each-range Q (and_so_far row ps) 0 (length row + 1) (λ i low high. joined i (omega arith)))

-- where all that a cover states is kept
pub cover_kept : (inputs : ℕ) (kept : List Function) (c : CoverTable) (ps : List Function) → AreKept inputs kept (cover_functions c ps) → IsCoverKept inputs kept c ps
cover_kept inputs kept c ps all =
    let Q : Function → Type 0 = IsCofactorOfOne inputs kept in
    let rows = each-front Q (of_rows c ps) _ all in
    let rest = each-back Q (of_rows c ps) _ all in
    record {
      rows = record {
        each = λ j inside.
            let row = slice_index_or c.rows j [] in
            let here = flat-at Q (row_functions ps) c.rows [] j rows inside in
            record { negated = row_negated Q ps row here; joined = row_joined Q ps row here };
        joined = λ j inside. range-at Q (or_so_far c.rows ps) 0 (length c.rows + 1) j (each-front Q (ors c ps) (off c ps) rest) (omega arith) (omega arith);
      };
      negated = unless Q _ c.on (each-back Q (ors c ps) (off c ps) rest);
    }

-- where all that a cover states has rows
pub cover_has_rows : (state : DiagramState) (c : CoverTable) (ps : List Function) → IsCoverBuilt state c ps → AreBuilt state (cover_functions c ps)
cover_has_rows state c ps built =
    let Q : Function → Type 0 = HasRow state in
    each-append Q (of_rows c ps) _
    (each-flat Q (row_functions ps) c.rows [] (λ j inside. each_of_row Q ps (slice_index_or c.rows j []) (built.rows.each j inside).negated (built.rows.each j inside).joined))
    (each-append Q (ors c ps) (off c ps)
    (each-range Q (or_so_far c.rows ps) 0 (length c.rows + 1) (λ j low high. built.rows.joined j (omega arith)))
    (where_not Q _ c.on built.negated))
