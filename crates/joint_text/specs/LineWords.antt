-- Pieces of lines, as the code comes to them.
use Rattle.std.specs.Prelude.{ℕ, ◌==◌, cond, Bool, List, [], ◌∷◌, ◌++◌, Option, None, Some}
use Rattle.blif_read.specs.declared.clocks.Clock.{Clock}
use Rattle.blif_write.specs.Layout.{bit_character}
use Rattle.blif_write.specs.RegisterText.{type_word}

-- words with a blank before each
abbrev pub spaced : List (List ℕ) → List ℕ
spaced [] = []
spaced (word ∷ words) = 32 ∷ (word ++ spaced words)

-- the end of the line of a row over so many pins: the bit of the set, after a blank where there is a pin
abbrev pub row_end : ℕ → Bool → List ℕ
row_end width on = cond (width == 0) (bit_character on ∷ 10 ∷ []) (32 ∷ bit_character on ∷ 10 ∷ [])

-- the end of the line of a latch: the bit that it holds first
abbrev pub latch_end : Bool → List ℕ
latch_end init = 32 ∷ bit_character init ∷ 10 ∷ []

-- the type of a clock, with a blank before it and one after it
abbrev pub type_text : Option Clock → List ℕ
type_text None = []
type_text (Some clock) = 32 ∷ (type_word clock.edge ++ 32 ∷ [])

-- the control of a clock
abbrev pub control_text : Option Clock → List ℕ
control_text None = []
control_text (Some clock) = clock.control
