-- Covers that are made of the rows of a table, one per output.
use Rattle.std.specs.Prelude.{◌≡◌, ℕ, ◌<◌, ◌≤◌, Bool, true, false, if◌then◌else◌, List, [], ◌∷◌, ◌++◌, length, slice_index_or}
use Rattle.tsc_cover.specs.Cover.{CoverTable}
use Rattle.tsc_cover.specs.Row.{literals_of}
use Rattle.tsc_cover.specs.declared.rows.Row01.{Row01}
use Rattle.fault_secure.specs.Circuit.{bit}
use Rattle.pla_read.specs.RowText.{TableRow}
use Rattle.pla_read.specs.Covers.{marked_at}
use Rattle.pla_read.specs.declared.rows.Mark.{Mark}

-- the on-set cover of so many pins without rows
abbrev pub no_rows : ℕ → CoverTable
no_rows width = record { width = width; on = true; rows = [] }

-- a cover, with a row last where that is asked
abbrev pub with_row : Row01 → Bool → CoverTable → CoverTable
with_row row true cover = record cover { rows = cover.rows ++ literals_of cover.width row ∷ [] }
with_row row false cover = cover

-- the on-set cover of the rows that have the mark at an output, if the output is asked for; else without rows
abbrev pub spread_cover : Mark → List Bool → ℕ → List TableRow → ℕ → CoverTable
spread_cover mark within inputs rows place =
    record { width = inputs; on = true; rows = if bit within place then marked_at mark rows place else [] }

-- so many covers, which from a place on are those of a function
pub record AreCovers (from count : ℕ) (f : ℕ → CoverTable) (covers : List CoverTable) : Type 0 where
  pub counted : length covers ≡ count
  pub each : (place : ℕ) (d : CoverTable) → from ≤ place → place < count → slice_index_or covers place d ≡ f place

-- the covers after are those before, with a row last where that is asked
pub record HaveRow (row : Row01) (asked : ℕ → Bool) (before after : List CoverTable) : Type 0 where
  pub counted : length after ≡ length before
  pub each : (place : ℕ) (d : CoverTable) → place < length before → slice_index_or after place d ≡ with_row row (asked place) (slice_index_or before place d)
