-- A cover's function is the OR of its rows, or the negation of that.
use Rattle.std.proofs.Common.{◌≡◌, ℕ, Bool, true, false, not, cond, List, [], ◌∷◌, take, length, refl, sym, ap, ◌∙◌, subst}
use Rattle.tsc_bits.specs.Bits.{same}
use Rattle.tsc_cover.specs.Cover.{Literal, CoverTable, some_row_matches}
use Rattle.tsc_cover.specs.Row.{literals_of_each}
use Rattle.tsc_cover.specs.declared.rows.Row01.{Row01}
use Rattle.diagrams.specs.Cofactors.{Function, IsCofactorOfOne}
use Rattle.diagrams.specs.Building.{DiagramState, StandsFor}
use Rattle.diagrams.proofs.Waits.{stands_same}
use Rattle.cover_diagrams.specs.Covering.{Grows, negation, values, or_so_far, cover_function, AreRowsKept, IsCoverKept}
use Rattle.cover_diagrams.proofs.RunningOrs.{length_each}

whole_rows : (rows : List (List Literal)) → take (length rows) rows ≡ rows
whole_rows [] = refl
whole_rows (row ∷ rows) = ap (λ (rest : List (List Literal)). row ∷ rest) (whole_rows rows)

pub each_of : (n : ℕ) (c : CoverTable) (rows : List Row01) → n ≡ c.width → literals_of_each c.width rows ≡ c.rows → literals_of_each n rows ≡ c.rows
each_of n c rows sized each = ap (λ (k : ℕ). literals_of_each k rows) sized ∙ each

pub rows_kept : (inputs : ℕ) (fs ps : List Function) (n : ℕ) (c : CoverTable) (rows : List Row01) → n ≡ c.width → literals_of_each c.width rows ≡ c.rows →
    IsCoverKept inputs fs c ps → AreRowsKept inputs fs (literals_of_each n rows) ps
rows_kept inputs fs ps n c rows sized each kept = subst (λ (rs : List (List Literal)). AreRowsKept inputs fs rs ps) (sym (each_of n c rows sized each)) kept.rows

pub or_stands_for_cover : (state : DiagramState) (ps : List Function) (n k : ℕ) (c : CoverTable) (rows : List Row01) → n ≡ c.width → literals_of_each c.width rows ≡ c.rows →
    StandsFor state (or_so_far (literals_of_each n rows) ps (length rows)) k → StandsFor state (or_so_far c.rows ps (length c.rows)) k
or_stands_for_cover state ps n k c rows sized each stands =
    let is = each_of n c rows sized each in
    let long : length rows ≡ length c.rows = sym (length_each n rows) ∙ ap (λ (rs : List (List Literal)). length rs) is in
    subst (λ (j : ℕ). StandsFor state (or_so_far c.rows ps j) k) long (subst (λ (rs : List (List Literal)). StandsFor state (or_so_far rs ps (length rows)) k) is stands)

pub negation_kept_for_cover : (old mid : DiagramState) (fs ps : List Function) (c : CoverTable) (on : Bool) → on ≡ c.on → Grows old mid → IsCoverKept old.inputs fs c ps → on ≡ false →
    IsCofactorOfOne mid.inputs fs (negation (or_so_far c.rows ps (length c.rows)))
negation_kept_for_cover old mid fs ps c on is grown kept off =
    subst (λ (i : ℕ). IsCofactorOfOne i fs (negation (or_so_far c.rows ps (length c.rows)))) (sym grown.inputs) (kept.negated (sym is ∙ off))

signed : (on s : Bool) → same on s ≡ cond on s (not s)
signed true s = refl
signed false s = refl

pub cover_stands : (state : DiagramState) (ps : List Function) (c : CoverTable) (on : Bool) (k : ℕ) → on ≡ c.on →
    StandsFor state (λ x. same on (or_so_far c.rows ps (length c.rows) x)) k → StandsFor state (cover_function c ps) k
cover_stands state ps c on k is stands = stands_same state (λ x. same on (or_so_far c.rows ps (length c.rows) x)) (cover_function c ps) state.inputs k refl
    (record {
      at = λ x sized.
          ap (λ (t : Bool). same t (some_row_matches (take (length c.rows) c.rows) (values ps x))) is
          ∙ (ap (λ (rs : List (List Literal)). same c.on (some_row_matches rs (values ps x))) (whole_rows c.rows) ∙ signed c.on (some_row_matches c.rows (values ps x)));
    })
    stands
