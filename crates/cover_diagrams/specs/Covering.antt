-- The functions that a cover states over those of its pins: the running ANDs of each row, and the negations of pins that are read as 0.
use Rattle.std.specs.Prelude.{◌≡◌, ℕ, ◌<◌, ◌≤◌, Bool, false, not, ◌&&◌, ◌||◌, IsTrue, List, [], map, take, length, slice_index, slice_index_or}
use Rattle.tsc_cover.specs.Cover.{Literal, CoverTable, accepts, asks_for, literal_at, row_matches, some_row_matches, truth}
use Rattle.diagrams.specs.Decisions.{IsDiagram}
use Rattle.diagrams.specs.Cofactors.{Function, IsCofactorOfOne}
use Rattle.diagrams.specs.Building.{DiagramState, no_input, Extends, StandsFor}

-- the function that is 1 where this one is 0
abbrev pub negation : Function → Function
negation f x = not (f x)

-- the AND of a function with what a literal asks of another
abbrev pub with_literal : Function → Literal → Function → Function
with_literal f l p x = f x && accepts l (p x)

-- what the functions make of an input
abbrev pub values : List Function → List Bool → List Bool
values ps x = map (λ (p : Function). p x) ps

-- the AND of the first so many literals of a row over its pins' functions; of none it is 1
abbrev pub and_so_far : List Literal → List Function → ℕ → Function
and_so_far row ps i x = row_matches (take i row) (values ps x)

-- the OR of a function with a row over its pins' functions
abbrev pub with_row : Function → List Literal → List Function → Function
with_row f row ps x = f x || row_matches row (values ps x)

-- the OR of the first so many rows over their pins' functions; of none it is 0
abbrev pub or_so_far : List (List Literal) → List Function → ℕ → Function
or_so_far rows ps j x = some_row_matches (take j rows) (values ps x)

-- what a cover makes of its pins' functions
abbrev pub cover_function : CoverTable → List Function → Function
cover_function c ps x = truth c (values ps x)

-- the function of a pin
abbrev pub pin_function : List Function → ℕ → Function
pin_function ps i = slice_index_or ps i no_input

-- some row stands for the function
abbrev pub HasRow : DiagramState → Function → Type 0
HasRow state f = (k : ℕ) × StandsFor state f k

-- all that was stays, whatever came
pub record Grows (old new : DiagramState) : Type 0 where
  pub inputs : new.inputs ≡ old.inputs
  pub room : new.room ≡ old.room
  pub diagram : IsDiagram new.inputs new.rows
  pub within : length new.rows ≤ new.room
  pub extends : Extends old.rows new.rows

-- each pin's row stands for its function
pub record StandForPins (state : DiagramState) (ps : List Function) (pins : List ℕ) : Type 0 where
  pub sized : length ps ≡ length pins
  pub at : (i : ℕ) → i < length pins → StandsFor state (pin_function ps i) (slice_index pins i)

-- the functions of an AND with a literal are cofactors of some that are kept: the AND, and the negation of the pin's function where the literal asks for 0
pub record IsLiteralKept (inputs : ℕ) (fs : List Function) (f : Function) (l : Literal) (p : Function) : Type 0 where
  pub negated : IsTrue (asks_for false l) → IsCofactorOfOne inputs fs (negation p)
  pub joined : IsCofactorOfOne inputs fs (with_literal f l p)

-- the functions of a row are cofactors of some that are kept: its running ANDs, and the negations of its pins' functions that it reads as 0
pub record IsRowKept (inputs : ℕ) (fs : List Function) (row : List Literal) (ps : List Function) : Type 0 where
  pub negated : (i : ℕ) → i < length row → IsTrue (asks_for false (literal_at row i)) → IsCofactorOfOne inputs fs (negation (pin_function ps i))
  pub joined : (i : ℕ) → i ≤ length row → IsCofactorOfOne inputs fs (and_so_far row ps i)

-- the functions of rows are cofactors of some that are kept: those of each row, and the running ORs
pub record AreRowsKept (inputs : ℕ) (fs : List Function) (rows : List (List Literal)) (ps : List Function) : Type 0 where
  pub each : (j : ℕ) → j < length rows → IsRowKept inputs fs (slice_index_or rows j []) ps
  pub joined : (j : ℕ) → j ≤ length rows → IsCofactorOfOne inputs fs (or_so_far rows ps j)

-- the functions of a cover are cofactors of some that are kept: those of its rows, and for an off-set the negation of their OR
pub record IsCoverKept (inputs : ℕ) (fs : List Function) (c : CoverTable) (ps : List Function) : Type 0 where
  pub rows : AreRowsKept inputs fs c.rows ps
  pub negated : c.on ≡ false → IsCofactorOfOne inputs fs (negation (or_so_far c.rows ps (length c.rows)))

-- the functions of the first so many literals of a row have rows: the running ANDs, and the negations of the pins' functions that they read as 0
pub record IsRowBuilt (state : DiagramState) (row : List Literal) (ps : List Function) (n : ℕ) : Type 0 where
  pub negated : (i : ℕ) → i < n → IsTrue (asks_for false (literal_at row i)) → HasRow state (negation (pin_function ps i))
  pub joined : (i : ℕ) → i ≤ n → HasRow state (and_so_far row ps i)

-- the functions of the first so many rows have rows: those of each row, and the running ORs
pub record AreRowsBuilt (state : DiagramState) (rows : List (List Literal)) (ps : List Function) (n : ℕ) : Type 0 where
  pub each : (j : ℕ) → j < n → IsRowBuilt state (slice_index_or rows j []) ps (length (slice_index_or rows j []))
  pub joined : (j : ℕ) → j ≤ n → HasRow state (or_so_far rows ps j)

-- the functions of a cover have rows: those of its rows, and for an off-set the negation of their OR
pub record IsCoverBuilt (state : DiagramState) (c : CoverTable) (ps : List Function) : Type 0 where
  pub rows : AreRowsBuilt state c.rows ps (length c.rows)
  pub negated : c.on ≡ false → HasRow state (negation (or_so_far c.rows ps (length c.rows)))
