-- Thermometers: so many bits, of which the first are 1.
use Rattle.std.specs.Prelude.{ℕ, zero, suc, Bool, true, false, ◌&&◌, ◌||◌, List, [], ◌∷◌}

-- so many bits, of which the first n are 1
abbrev pub thermo : ℕ → ℕ → List Bool
thermo zero n = []
thermo (suc size) zero = false ∷ thermo size zero
thermo (suc size) (suc n) = true ∷ thermo size n

-- a thermometer with one bit more, `more`: each threshold is met before, or the one below it was, which is carried
abbrev pub row_with : Bool → Bool → List Bool → List Bool
row_with carried more [] = carried ∷ []
row_with carried more (t ∷ row) = (t || carried) ∷ row_with (t && more) more row
