-- Rows of the functions that a cover states: they stay, and there is one more with each literal and each row.
use Rattle.std.proofs.Common.{◌≡◌, ℕ, ◌+◌, ◌-◌, ◌<◌, Bool, true, false, IsTrue, List, [], length, slice_index_or, sym, ap, ◌∙◌, subst, arith}
use Rattle.std.proofs.lemmas.Bool.{false≢true, cases_lt}
use Rattle.std.proofs.Math.Logic.{⊎_elim}
use Rattle.tsc_bits.specs.Bits.{same, bit_worth}
use Rattle.tsc_cover.specs.Cover.{Literal, CoverTable, asks_for, literal_at}
use Rattle.tsc_cover.specs.Row.{literal, literals_of, literals_of_each}
use Rattle.tsc_cover.specs.declared.rows.Row01.{Row01}
use Rattle.tsc_cover.proofs.Row.{length-literals}
use Rattle.diagrams.specs.Decisions.{IsDiagram}
use Rattle.diagrams.specs.Cofactors.{Function}
use Rattle.diagrams.specs.Building.{DiagramState, StandsFor}
use Rattle.cover_diagrams.specs.Covering.{HasRow, Grows, negation, and_so_far, or_so_far, pin_function, IsRowBuilt, AreRowsBuilt, IsCoverBuilt}
use Rattle.cover_diagrams.proofs.Steps.{Grows-stands}
use Rattle.cover_diagrams.proofs.RunningAnds.{literal_read}
use Rattle.cover_diagrams.proofs.RunningOrs.{each_at, length_each}
use Rattle.cover_diagrams.proofs.TruthLemmas.{each_of}

-- a function that has a row has one after the diagrams grew
pub HasRow-grows : (old new : DiagramState) (f : Function) → IsDiagram old.inputs old.rows → Grows old new → HasRow old f → HasRow new f
HasRow-grows old new f D grown (k, stands) = (k, Grows-stands old new f k D grown stands)

pub IsRowBuilt-grows : (old new : DiagramState) (row : List Literal) (ps : List Function) (n : ℕ) → IsDiagram old.inputs old.rows → Grows old new → IsRowBuilt old row ps n → IsRowBuilt new row ps n
IsRowBuilt-grows old new row ps n D grown built = record {
  negated = λ i inside asked. HasRow-grows old new _ D grown (built.negated i inside asked);
  joined = λ i inside. HasRow-grows old new _ D grown (built.joined i inside);
}

pub AreRowsBuilt-grows : (old new : DiagramState) (rows : List (List Literal)) (ps : List Function) (n : ℕ) → IsDiagram old.inputs old.rows → Grows old new → AreRowsBuilt old rows ps n → AreRowsBuilt new rows ps n
AreRowsBuilt-grows old new rows ps n D grown built = record {
  each = λ j inside. IsRowBuilt-grows old new _ ps _ D grown (built.each j inside);
  joined = λ j inside. HasRow-grows old new _ D grown (built.joined j inside);
}

-- a literal
pub nothing_asked : (care wanted : Bool) → care ≡ false → IsTrue (asks_for false (literal care wanted)) → ⊥
nothing_asked true wanted cares asked = false≢true (sym cares)
nothing_asked false wanted cares asked = false≢true asked

pub literal_built : (state : DiagramState) (p : Function) (k : ℕ) (care wanted : Bool) → care ≡ true → StandsFor state (λ x. same wanted (p x)) k → IsTrue (asks_for false (literal care wanted)) → HasRow state (negation p)
literal_built state p k true true cares stands asked = absurd (false≢true asked)
literal_built state p k true false cares stands asked = (k, stands)
literal_built state p k false wanted cares stands asked = absurd (false≢true cares)

-- no literal, and one more
pub no_literal : (state : DiagramState) (row : List Literal) (ps : List Function) (k : ℕ) → StandsFor state (and_so_far row ps 0) k → IsRowBuilt state row ps 0
no_literal state row ps k stands = record {
  negated = λ i inside asked. absurd (omega arith);
  joined = λ i inside. let none : 0 ≡ i = omega arith in subst (λ (n : ℕ). HasRow state (and_so_far row ps n)) none (k, stands);
}

pub literal_more : (old new : DiagramState) (ps : List Function) (n i k : ℕ) (row : Row01) (care wanted : Bool) → i < n → IsDiagram old.inputs old.rows → Grows old new →
    care ≡ bit_worth (n - 1 - i) row.care → wanted ≡ bit_worth (n - 1 - i) row.value →
    (IsTrue (asks_for false (literal care wanted)) → HasRow new (negation (pin_function ps i))) → StandsFor new (and_so_far (literals_of n row) ps (i + 1)) k →
    IsRowBuilt old (literals_of n row) ps i → IsRowBuilt new (literals_of n row) ps (i + 1)
literal_more old new ps n i k row care wanted inside D grown cares wants here stands built = record {
  negated = λ m below asked. ⊎_elim
      (λ before. HasRow-grows old new _ D grown (built.negated m before asked))
      (λ after. let last : m ≡ i = omega arith in
      subst (λ (t : ℕ). HasRow new (negation (pin_function ps t))) (sym last)
      (here (subst (λ (l : Literal). IsTrue (asks_for false l)) (literal_read n i row care wanted inside cares wants)
      (subst (λ (t : ℕ). IsTrue (asks_for false (literal_at (literals_of n row) t))) last asked))))
      (cases_lt m i);
  joined = λ m below. ⊎_elim
      (λ before. HasRow-grows old new _ D grown (built.joined m (omega arith)))
      (λ after. let last : i + 1 ≡ m = omega arith in subst (λ (t : ℕ). HasRow new (and_so_far (literals_of n row) ps t)) last (k, stands))
      (cases_lt m (i + 1));
}

-- no row, and one more
pub no_rows : (state : DiagramState) (rows : List (List Literal)) (ps : List Function) (k : ℕ) → StandsFor state (or_so_far rows ps 0) k → AreRowsBuilt state rows ps 0
no_rows state rows ps k stands = record {
  each = λ j inside. absurd (omega arith);
  joined = λ j inside. let none : 0 ≡ j = omega arith in subst (λ (n : ℕ). HasRow state (or_so_far rows ps n)) none (k, stands);
}

row_at : (state : DiagramState) (ps : List Function) (n j : ℕ) (rows : List Row01) (d : Row01) → j < length rows → IsRowBuilt state (literals_of n (slice_index_or rows j d)) ps n →
    IsRowBuilt state (slice_index_or (literals_of_each n rows) j []) ps (length (slice_index_or (literals_of_each n rows) j []))
row_at state ps n j rows d inside built =
    let is = each_at n rows j d inside in
    let row = slice_index_or rows j d in
    let long : length (literals_of n row) ≡ n = length-literals n row.care row.value in
    subst (λ (ls : List Literal). IsRowBuilt state ls ps (length ls)) (sym is) (subst (λ (m : ℕ). IsRowBuilt state (literals_of n row) ps m) (sym long) built)

pub row_more : (old new : DiagramState) (ps : List Function) (n j k : ℕ) (rows : List Row01) (d : Row01) → j < length rows → IsDiagram old.inputs old.rows → Grows old new →
    IsRowBuilt new (literals_of n (slice_index_or rows j d)) ps n → StandsFor new (or_so_far (literals_of_each n rows) ps (j + 1)) k →
    AreRowsBuilt old (literals_of_each n rows) ps j → AreRowsBuilt new (literals_of_each n rows) ps (j + 1)
row_more old new ps n j k rows d inside D grown here stands built = record {
  each = λ m below. ⊎_elim
      (λ before. IsRowBuilt-grows old new _ ps _ D grown (built.each m before))
      (λ after. let last : j ≡ m = omega arith in
      subst (λ (t : ℕ). IsRowBuilt new (slice_index_or (literals_of_each n rows) t []) ps (length (slice_index_or (literals_of_each n rows) t []))) last (row_at new ps n j rows d inside here))
      (cases_lt m j);
  joined = λ m below. ⊎_elim
      (λ before. HasRow-grows old new _ D grown (built.joined m (omega arith)))
      (λ after. let last : j + 1 ≡ m = omega arith in subst (λ (t : ℕ). HasRow new (or_so_far (literals_of_each n rows) ps t)) last (k, stands))
      (cases_lt m (j + 1));
}

-- a cover
pub cover_built : (mid new : DiagramState) (ps : List Function) (n k : ℕ) (c : CoverTable) (rows : List Row01) (on : Bool) → n ≡ c.width → literals_of_each c.width rows ≡ c.rows → on ≡ c.on →
    IsDiagram mid.inputs mid.rows → Grows mid new → AreRowsBuilt mid (literals_of_each n rows) ps (length rows) → StandsFor new (λ x. same on (or_so_far c.rows ps (length c.rows) x)) k → IsCoverBuilt new c ps
cover_built mid new ps n k c rows on sized each is D grown built stands =
    let same_rows = each_of n c rows sized each in
    let long : length rows ≡ length c.rows = sym (length_each n rows) ∙ ap (λ (rs : List (List Literal)). length rs) same_rows in
    record {
      rows = AreRowsBuilt-grows mid new c.rows ps _ D grown
          (subst (λ (m : ℕ). AreRowsBuilt mid c.rows ps m) long (subst (λ (rs : List (List Literal)). AreRowsBuilt mid rs ps (length rows)) same_rows built));
      negated = λ off. (k, subst (λ (t : Bool). StandsFor new (λ x. same t (or_so_far c.rows ps (length c.rows) x)) k) (is ∙ off) stands);
    }
