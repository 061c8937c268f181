-- The running ORs of rows: one row more.
use Rattle.std.proofs.Common.{◌≡◌, ℕ, zero, suc, ◌+◌, ◌<◌, Bool, true, false, ◌||◌, List, [], ◌∷◌, take, length, slice_index_or, refl, sym, ap, ◌∙◌, subst, arith}
use Rattle.tsc_cover.specs.Cover.{Literal, row_matches, some_row_matches}
use Rattle.tsc_cover.specs.Row.{literals_of, literals_of_each}
use Rattle.tsc_cover.specs.declared.rows.Row01.{Row01}
use Rattle.tsc_cover.proofs.Row.{length-literals}
use Rattle.diagrams.specs.declared.memo.Operation.TheVariants.{Or}
use Rattle.diagrams.specs.Decisions.{IsDiagram}
use Rattle.diagrams.specs.Cofactors.{Function, Same, IsCofactorOfOne}
use Rattle.diagrams.specs.Building.{DiagramState, no_input, combined_rows, StandsFor}
use Rattle.diagrams.proofs.CofactorLemmas.{of_one-same}
use Rattle.diagrams.proofs.Shortcuts.{value-constant}
use Rattle.diagrams.proofs.Waits.{stands_same}
use Rattle.cover_diagrams.specs.Covering.{Grows, values, and_so_far, with_row, or_so_far, StandForPins, IsRowKept, AreRowsKept}
use Rattle.cover_diagrams.proofs.Steps.{Grows-stands, combined_same}

pub zero_stands : (state : DiagramState) → IsDiagram state.inputs state.rows → StandsFor state no_input 0
zero_stands state D = record {
  node = let two = D.constants in omega arith;
  is = record { at = λ x sized. value-constant state.inputs state.rows 0 x D (omega arith) sized };
}

-- rows that stand for the functions of pins stand for them after the diagrams grew
pub pins_kept : (old mid : DiagramState) (ps : List Function) (pins : List ℕ) → IsDiagram old.inputs old.rows → Grows old mid → StandForPins old ps pins → StandForPins mid ps pins
pins_kept old mid ps pins D grown P = record { sized = P.sized; at = λ i inside. Grows-stands old mid _ _ D grown (P.at i inside) }

pub row_kept-inputs : (old mid : DiagramState) (fs ps : List Function) (row : List Literal) → Grows old mid → IsRowKept old.inputs fs row ps → IsRowKept mid.inputs fs row ps
row_kept-inputs old mid fs ps row grown kept = subst (λ (k : ℕ). IsRowKept k fs row ps) (sym grown.inputs) kept

whole : (row : List Literal) → take (length row) row ≡ row
whole [] = refl
whole (l ∷ row) = ap (λ (rest : List Literal). l ∷ rest) (whole row)

all_taken : (n : ℕ) (row : List Literal) → length row ≡ n → take n row ≡ row
all_taken n row long = subst (λ (k : ℕ). take k row ≡ row) long (whole row)

-- the OR with a row's row
pub or_same : (state : DiagramState) (f : Function) (ps : List Function) (n so_far joined : ℕ) (row : Row01) → StandsFor state f so_far → StandsFor state (and_so_far (literals_of n row) ps n) joined →
    Same state.inputs (combined_rows Or state.rows so_far joined) (with_row f (literals_of n row) ps)
or_same state f ps n so_far joined row F J =
    let both = combined_same state Or f (and_so_far (literals_of n row) ps n) so_far joined F J in
    record { at = λ x sized. both.at x sized ∙ ap (λ (ls : List Literal). f x || row_matches ls (values ps x)) (all_taken n (literals_of n row) (length-literals n row.care row.value)) }

pub or_needed : (old mid : DiagramState) (fs : List Function) (f : Function) (ps : List Function) (n so_far joined : ℕ) (row : Row01) → IsDiagram old.inputs old.rows → Grows old mid → StandsFor old f so_far →
    StandsFor mid (and_so_far (literals_of n row) ps n) joined → IsCofactorOfOne old.inputs fs (with_row f (literals_of n row) ps) → IsCofactorOfOne mid.inputs fs (combined_rows Or mid.rows so_far joined)
or_needed old mid fs f ps n so_far joined row D grown F J kept =
    of_one-same mid.inputs fs _ _ (subst (λ (k : ℕ). IsCofactorOfOne k fs (with_row f (literals_of n row) ps)) (sym grown.inputs) kept)
    (or_same mid f ps n so_far joined row (Grows-stands old mid f so_far D grown F) J)

or-false : (a : Bool) → (a || false) ≡ a
or-false true = refl
or-false false = refl

or-assoc : (a b c : Bool) → (a || (b || c)) ≡ ((a || b) || c)
or-assoc true b c = refl
or-assoc false b c = refl

or_next : (rows : List (List Literal)) (bits : List Bool) (j : ℕ) → j < length rows →
    some_row_matches (take (suc j) rows) bits ≡ (some_row_matches (take j rows) bits || row_matches (slice_index_or rows j []) bits)
or_next [] bits j inside = absurd (omega arith)
or_next (row ∷ rows) bits zero inside = or-false (row_matches row bits)
or_next (row ∷ rows) bits (suc j) inside =
    ap (λ b. row_matches row bits || b) (or_next rows bits j (omega arith)) ∙ or-assoc (row_matches row bits) (some_row_matches (take j rows) bits) (row_matches (slice_index_or rows j []) bits)

pub length_each : (n : ℕ) (rows : List Row01) → length (literals_of_each n rows) ≡ length rows
length_each n [] = refl
length_each n (row ∷ rows) = ap suc (length_each n rows)

pub each_at : (n : ℕ) (rows : List Row01) (j : ℕ) (d : Row01) → j < length rows → slice_index_or (literals_of_each n rows) j [] ≡ literals_of n (slice_index_or rows j d)
each_at n [] j d inside = absurd (omega arith)
each_at n (row ∷ rows) zero d inside = refl
each_at n (row ∷ rows) (suc j) d inside = each_at n rows j d (omega arith)

-- the OR so far with the next row is the next OR
next_or : (inputs n : ℕ) (rows : List Row01) (ps : List Function) (j : ℕ) (d : Row01) → j < length rows →
    Same inputs (with_row (or_so_far (literals_of_each n rows) ps j) (literals_of n (slice_index_or rows j d)) ps) (or_so_far (literals_of_each n rows) ps (j + 1))
next_or inputs n rows ps j d inside = record {
  at = λ x sized.
      let e : suc j ≡ j + 1 = omega arith in
      let long = length_each n rows in
      let each = literals_of_each n rows in
      ap (λ (ls : List Literal). some_row_matches (take j each) (values ps x) || row_matches ls (values ps x)) (sym (each_at n rows j d inside))
      ∙ (sym (or_next each (values ps x) j (omega (arith, long, inside))) ∙ ap (λ (k : ℕ). some_row_matches (take k each) (values ps x)) e);
}

pub row_kept_at : (old mid : DiagramState) (fs ps : List Function) (n : ℕ) (rows : List Row01) (j : ℕ) (d : Row01) → j < length rows → Grows old mid →
    AreRowsKept old.inputs fs (literals_of_each n rows) ps → IsRowKept mid.inputs fs (literals_of n (slice_index_or rows j d)) ps
row_kept_at old mid fs ps n rows j d inside grown kept =
    let long = length_each n rows in
    row_kept-inputs old mid fs ps _ grown (subst (λ (ls : List Literal). IsRowKept old.inputs fs ls ps) (each_at n rows j d inside) (kept.each j (omega (arith, long, inside))))

pub or_kept_at : (old mid : DiagramState) (fs ps : List Function) (n : ℕ) (rows : List Row01) (j : ℕ) (d : Row01) → j < length rows → Grows old mid →
    AreRowsKept old.inputs fs (literals_of_each n rows) ps → IsCofactorOfOne mid.inputs fs (with_row (or_so_far (literals_of_each n rows) ps j) (literals_of n (slice_index_or rows j d)) ps)
or_kept_at old mid fs ps n rows j d inside grown kept =
    let long = length_each n rows in
    subst (λ (k : ℕ). IsCofactorOfOne k fs (with_row (or_so_far (literals_of_each n rows) ps j) (literals_of n (slice_index_or rows j d)) ps)) (sym grown.inputs)
    (of_one-same old.inputs fs _ _ (kept.joined (j + 1) (omega (arith, long, inside))) (next_or old.inputs n rows ps j d inside))

pub or_stands : (state : DiagramState) (ps : List Function) (n : ℕ) (rows : List Row01) (j k : ℕ) (d : Row01) → j < length rows →
    StandsFor state (with_row (or_so_far (literals_of_each n rows) ps j) (literals_of n (slice_index_or rows j d)) ps) k → StandsFor state (or_so_far (literals_of_each n rows) ps (j + 1)) k
or_stands state ps n rows j k d inside stands = stands_same state _ _ state.inputs k refl (next_or state.inputs n rows ps j d inside) stands
