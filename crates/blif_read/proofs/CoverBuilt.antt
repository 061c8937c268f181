-- A cover that is built row by row.
use Rattle.std.proofs.Common.{◌≡◌, ℕ, Bool, List, [], ◌∷◌, ◌++◌, map, refl, sym, ap, subst, ◌∙◌, append_assoc}
use Rattle.std.proofs.lemmas.List.{append-nil}
use Rattle.tsc_cover.specs.Cover.{CoverTable, Literal, literals}
use Rattle.tsc_cover.specs.Text.{literals_of_text}
use Rattle.tsc_text.specs.TextLine.{TextLine}
use Rattle.blif_read.specs.LineKind.{kind_of}
use Rattle.blif_read.specs.Rows.{cover_with, input_of, is_on_set, rows_at, rows_of}
use Rattle.blif_read.specs.Clean.{AreShaped}
use Rattle.blif_read.specs.declared.kinds.LineKind.{LineKind}
use Rattle.blif_read.specs.declared.kinds.LineKind.TheVariants.{PlanLine, Row}
use Rattle.blif_read.proofs.RowWalk.{closed_at}

-- the literals of a row's input
abbrev pub row_literals : TextLine → List Literal
row_literals row = literals_of_text (input_of row.words)

-- the cover has the rows of the list but those that are left
pub record HasRowsBut (width : ℕ) (cover : CoverTable) (all rest : List TextLine) : Type 0 where
  pub wide : cover.width ≡ width
  pub on : cover.on ≡ is_on_set all
  pub rows : cover.rows ++ map row_literals rest ≡ map row_literals all
  pub shaped : AreShaped width rest

pub cover_same : (cover : CoverTable) (width : ℕ) (on : Bool) (rows : List (List Literal)) → cover.width ≡ width → cover.on ≡ on → cover.rows ≡ rows
    → cover ≡ record { width = width; on = on; rows = rows }
cover_same cover width on rows e f g =
    subst (λ w. cover ≡ record { width = w; on = on; rows = rows }) e
    (subst (λ o. cover ≡ record { width = cover.width; on = o; rows = rows }) f
    (subst (λ r. cover ≡ record { width = cover.width; on = cover.on; rows = r }) g refl))

pub rows_built : (width : ℕ) (cover : CoverTable) (all rest : List TextLine) → HasRowsBut width cover all rest → rest ≡ [] → cover ≡ cover_with width all
rows_built width cover all rest h e =
    let f : cover.rows ++ map row_literals [] ≡ map row_literals all = subst (λ rest. cover.rows ++ map row_literals rest ≡ map row_literals all) e h.rows in
    let g : cover.rows ≡ map row_literals all = sym (append-nil cover.rows) ∙ f in
    cover_same cover width (is_on_set all) (map row_literals all) h.wide h.on g

module _ (width : ℕ) (cover : CoverTable) (all : List TextLine) (here rest : List TextLine) (line : TextLine) (is : here ≡ line ∷ rest)
    (so_far : HasRowsBut width cover all (rows_of here)) where
  rows_by : (k : LineKind) → k ≡ kind_of line → rows_of here ≡ rows_at k line (rows_of rest)
  rows_by k e = ap rows_of is ∙ ap (λ k. rows_at k line (rows_of rest)) (sym e)

  pub row_passed : PlanLine ≡ kind_of line → HasRowsBut width cover all (rows_of rest)
  row_passed e = subst (λ rows. HasRowsBut width cover all rows) (rows_by PlanLine e) so_far

  pub row_added : (care value : ℕ) → Row ≡ kind_of line
      → literals width care value ≡ row_literals line
      → (new : CoverTable) → new ≡ record cover { rows = cover.rows ++ literals cover.width care value ∷ [] }
      → HasRowsBut width new all (rows_of rest)
  row_added care value e f new g =
      let left = rows_of rest in
      let s : HasRowsBut width cover all (line ∷ left) = subst (λ rows. HasRowsBut width cover all rows) (rows_by Row e) so_far in
      let same : literals cover.width care value ≡ row_literals line = subst (λ w. literals w care value ≡ row_literals line) (sym s.wide) f in
      let made : HasRowsBut width (record cover { rows = cover.rows ++ literals cover.width care value ∷ [] }) all left =
      record {
        wide = s.wide;
        on = s.on;
        rows = subst (λ l. (cover.rows ++ l ∷ []) ++ map row_literals left ≡ map row_literals all) (sym same)
            (append_assoc cover.rows (row_literals line ∷ []) (map row_literals left) ∙ s.rows);
        shaped = s.shaped.1;
      } in
      subst (λ c. HasRowsBut width c all left) (sym g) made

  pub row_closed : (k : LineKind) → k ≡ kind_of line → (k ≡ PlanLine → ⊥) → (k ≡ Row → ⊥) → cover ≡ cover_with width all
  row_closed k e p r = rows_built width cover all (rows_of here) so_far (rows_by k e ∙ closed_at k line (rows_of rest) p r)
