-- The covers that are made of the rows of a table.
use Rattle.std.specs.Prelude.{ℕ, Bool, true, nat_lt, if◌then◌else◌, List, [], filter, length, map}
use Rattle.tsc_cover.specs.Cover.{CoverTable, Literal}
use Rattle.fault_secure.specs.Circuit.{bit}
use Rattle.pla_read.specs.RowText.{TableRow}
use Rattle.pla_read.specs.TableText.{TableOf}
use Rattle.pla_read.specs.declared.rows.PlaRow.{PlaRow}
use Rattle.pla_read.specs.declared.rows.Mark.{Mark}
use Rattle.pla_read.specs.declared.rows.Mark.TheVariants as mark
use Rattle.pla_read.specs.declared.table.Chosen.{Chosen}
use Rattle.pla_read.specs.declared.table.Chosen.TheVariants.{Ones, Free, OnesBesideFree}

-- the number that has a row's marks, and the marks as bits
abbrev pub marks_in : Mark → PlaRow → ℕ
marks_in mark.One row = row.ones
marks_in mark.Free row = row.free

-- the marks of a row as bits
abbrev pub marks_of : Mark → TableRow → List Bool
marks_of mark.One row = row.ones
marks_of mark.Free row = row.free

-- the input parts of the rows that have the mark at an output, in order
abbrev pub marked_at : Mark → List TableRow → ℕ → List (List Literal)
marked_at mark rows place = map (λ row. row.input) (filter (λ row. bit (marks_of mark row) place) rows)

-- the rows that are chosen for an output
abbrev pub chosen_at : Chosen → List TableRow → ℕ → List (List Literal)
chosen_at Ones rows place = marked_at mark.One rows place
chosen_at Free rows place = marked_at mark.Free rows place
chosen_at OnesBesideFree rows place =
    if nat_lt 0 (length (marked_at mark.Free rows place)) then marked_at mark.One rows place else []

-- the on-set cover of the rows that are chosen for an output
abbrev pub rows_cover : Chosen → TableOf → ℕ → CoverTable
rows_cover chosen table place = record { width = table.inputs; on = true; rows = chosen_at chosen table.rows place }
