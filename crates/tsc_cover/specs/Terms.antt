-- Rows as lists of what they ask: the pins that are read, each with the bit that is wanted there.
use Rattle.std.specs.Prelude.{ℕ, ◌+◌, Bool, List, [], ◌∷◌}
use Rattle.std.specs.List.{list_all}
use Rattle.tsc_bits.specs.Bits.{same}
use Rattle.tsc_cover.specs.Cover.{Literal, Free, Wants}

-- the pins that a row reads, and the bits that it wants there, where its first literal stands at the given pin
abbrev pub terms_from : ℕ → List Literal → List (ℕ × Bool)
terms_from pin [] = []
terms_from pin (Free ∷ row) = terms_from (pin + 1) row
terms_from pin (Wants wanted ∷ row) = (pin, wanted) ∷ terms_from (pin + 1) row

-- each pin of the list has the bit that is wanted
abbrev pub all_given : (ℕ → Bool) → List (ℕ × Bool) → Bool
all_given bit terms = list_all (λ (term : ℕ × Bool). same term.1 (bit term.0)) terms
