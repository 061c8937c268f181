-- Rows that are put at places one after another.
use Rattle.std.proofs.Common.{◌≡◌, ℕ, ◌+◌, ◌<◌, List, length, slice_index, slice_set, All, sym, subst, arith}
use Rattle.std.proofs.lemmas.Bool.{cases_lt}
use Rattle.std.proofs.lemmas.Grind.{common_steps}
use Rattle.std.proofs.lemmas.List.Elements.{All-set, All-weaker}
use Rattle.std.proofs.Math.Logic.{⊎_elim}
use Rattle.diagrams.specs.Decisions.{IsDiagram}
use Rattle.diagrams.specs.Cofactors.{Function}
use Rattle.diagrams.specs.Building.{DiagramState, StandsFor}
use Rattle.cover_diagrams.specs.Covering.{Grows}
use Rattle.cover_diagrams.proofs.Steps.{Grows-stands}

-- rows that were there are there after the diagrams grew
pub inside_on : (old new : DiagramState) (rows : List ℕ) → Grows old new → All (λ row. row < length old.rows) rows → All (λ row. row < length new.rows) rows
inside_on old new rows grown inside = All-weaker (λ row. row < length old.rows) (λ row. row < length new.rows) (λ row below. let longer = grown.extends.longer in omega (arith, longer, below)) rows inside

-- rows that were there, and one in the place of another, are all there after the diagrams grew
pub inside_set : (old new : DiagramState) (rows : List ℕ) (k row : ℕ) → Grows old new → All (λ r. r < length old.rows) rows → row < length new.rows → All (λ r. r < length new.rows) (slice_set rows k row)
inside_set old new rows k row grown inside here = All-set (λ r. r < length new.rows) rows k row here (inside_on old new rows grown inside)

elsewhere : (rows : List ℕ) (k m row : ℕ) → m < k → slice_index (slice_set rows k row) m ≡ slice_index rows m
elsewhere rows k m row before = grind (arith, common_steps)

pub set_there : (rows : List ℕ) (k row : ℕ) → k < length rows → slice_index (slice_set rows k row) k ≡ row
set_there rows k row inside = grind (arith, common_steps)

-- one place more
pub prefix_on : (old new : DiagramState) (F : ℕ → Function) (k row : ℕ) (rows : List ℕ) → IsDiagram old.inputs old.rows → Grows old new → k < length rows → StandsFor new (F k) row →
    ((i : ℕ) → i < k → StandsFor old (F i) (slice_index rows i)) → (i : ℕ) → i < k + 1 → StandsFor new (F i) (slice_index (slice_set rows k row) i)
prefix_on old new F k row rows D grown inside here stand = λ m below. ⊎_elim
    (λ before. subst (λ (r : ℕ). StandsFor new (F m) r) (sym (elsewhere rows k m row before)) (Grows-stands old new (F m) _ D grown (stand m before)))
    (λ last. let e : k ≡ m = omega arith in
    subst (λ (n : ℕ). StandsFor new (F n) (slice_index (slice_set rows k row) n)) e (subst (λ (r : ℕ). StandsFor new (F k) r) (sym (set_there rows k row inside)) here))
    (cases_lt m k)
