-- The covers of the gates that a synthesis writes.
use Rattle.std.specs.Prelude.{true, false, [], ◌∷◌}
use Rattle.tsc_cover.specs.Cover.{CoverTable}
use Rattle.tsc_cover.specs.Cover.Literal.{Free, Wants}

-- `1 1`
abbrev pub buf_cover : CoverTable
buf_cover = record { width = 1; on = true; rows = (Wants true ∷ []) ∷ [] }

-- `0 1`
abbrev pub not_cover : CoverTable
not_cover = record { width = 1; on = true; rows = (Wants false ∷ []) ∷ [] }

-- `11 1`
abbrev pub and_cover : CoverTable
and_cover = record { width = 2; on = true; rows = (Wants true ∷ (Wants true ∷ [])) ∷ [] }

-- `1- 1`, `-1 1`
abbrev pub or_cover : CoverTable
or_cover = record { width = 2; on = true; rows = (Wants true ∷ (Free ∷ [])) ∷ ((Free ∷ (Wants true ∷ [])) ∷ []) }

-- `10 1`, `01 1`
abbrev pub xor_cover : CoverTable
xor_cover = record { width = 2; on = true; rows = (Wants true ∷ (Wants false ∷ [])) ∷ ((Wants false ∷ (Wants true ∷ [])) ∷ []) }
