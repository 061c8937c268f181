-- Rows while they are given out: those that nets got, those that nets still hold, and those that are free.
use Rattle.std.specs.Prelude.{◌≡◌, ℕ, ◌+◌, ◌==◌, nat_lt, Bool, false, if◌then◌else◌, List, [], ◌∷◌, ◌++◌, length, count_by, Option, Some, None, is_some}
use Rattle.lane_rows.specs.Rows.{row_of, AreBelow}

-- the next row is the one that was freed last or, where none is free, a new one
pub data IsNext (free : List ℕ) (count : ℕ) (left : List ℕ) (grown row : ℕ) : Type 0 where
  Freed : free ≡ left ++ row ∷ [] → grown ≡ count → IsNext free count left grown row
  New : free ≡ [] → left ≡ [] → row ≡ count → grown ≡ count + 1 → IsNext free count left grown row

-- it is this row
abbrev pub is_row : ℕ → Option ℕ → Bool
is_row row None = false
is_row row (Some other) = other == row

-- nets hold the rows that they got as long as they live, and each of the rows is free or held, once
pub record IsHolding (rows held : List (Option ℕ)) (free : List ℕ) (count : ℕ) (live : ℕ → Bool) : Type 0 where
  pub sized : length held ≡ length rows
  pub holds : (net : ℕ) → row_of held net ≡ (if live net then row_of rows net else None)
  pub once : (row : ℕ) → count_by (λ f. f == row) free + count_by (is_row row) held ≡ (if nat_lt row count then 1 else 0)
  pub below : AreBelow count rows
  pub counted : length free + count_by is_some held ≡ count
