-- A table of two inputs and two outputs, of which the second is free where both inputs are 1.
use Rattle.std.specs.Prelude.{◌≡◌, ℕ, true, false, List, [], ◌∷◌, codes, refl, None}
use Rattle.fault_secure.specs.Logic.{NetworkAnswers}
use Rattle.tsc_net.specs.NetlistOf.{circuit_of}
use Rattle.tsc_text.specs.TextLine.{TextLine}
use Rattle.pla_read.specs.Networks.{value_text}
use Rattle.pla_read.specs.Loose.{free_text}
use Rattle.pla_read.specs.Refusal.{refusal}

-- a line of two words
abbrev pub line_of_two : ℕ → List ℕ → List ℕ → TextLine
line_of_two number first second = record { number = number; is_plan = false; words = first ∷ second ∷ [] }

-- `.i 2`, `.o 2`, and the rows `11 1-` and `0- 01`
abbrev pub small_table : List TextLine
small_table =
    line_of_two 1 (codes ".i") (codes "2") ∷ line_of_two 2 (codes ".o") (codes "2")
    ∷ line_of_two 3 (codes "11") (codes "1-") ∷ line_of_two 4 (codes "0-") (codes "01") ∷ []

refusal-small : refusal small_table ≡ None
refusal-small = refl

-- at 11 the values are 10, and the second one is free
pub record SmallTableAnswers : Type 0 where
  pub values : NetworkAnswers (circuit_of (value_text small_table)) (true ∷ true ∷ []) (true ∷ false ∷ [])
  pub frees : NetworkAnswers (circuit_of (free_text small_table)) (true ∷ true ∷ []) (false ∷ true ∷ [])
