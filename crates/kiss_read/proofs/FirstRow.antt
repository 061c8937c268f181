-- The first row is the first line of its kind.
use Rattle.std.proofs.Common.{◌≡◌, ℕ, Bool, true, false, cond, List, [], ◌∷◌, Option, Some, None, unwrap_or, refl, ap, ◌∙◌}
use Rattle.tsc_net.specs.Names.{find_text}
use Rattle.tsc_text.specs.TextLine.{TextLine, the_word}
use Rattle.kiss_read.specs.Selections.{is_of, line_of, rows_of}
use Rattle.kiss_read.specs.TableText.{first_state}
use Rattle.kiss_read.specs.declared.kinds.LineKind.TheVariants.{Row}

abbrev state_or : List (List ℕ) → Option TextLine → ℕ
state_or states None = 0
state_or states (Some row) = unwrap_or (find_text states (the_word row 1)) 0

first_is : (states : List (List ℕ)) (lines : List TextLine) → first_state states (rows_of lines) ≡ state_or states (line_of Row lines)
first_is states [] = refl
first_is states (line ∷ lines) = by (is_of Row line) (first_is states lines)
  where
    by : (b : Bool) → first_state states (rows_of lines) ≡ state_or states (line_of Row lines)
        → first_state states (cond b (line ∷ rows_of lines) (rows_of lines)) ≡ state_or states (cond b (Some line) (line_of Row lines))
    by true e = refl
    by false e = e

pub first_of_none : (states : List (List ℕ)) (lines : List TextLine) → line_of Row lines ≡ None → first_state states (rows_of lines) ≡ 0
first_of_none states lines e = first_is states lines ∙ ap (state_or states) e

pub first_of_rows : (states : List (List ℕ)) (lines : List TextLine) (row : TextLine) → line_of Row lines ≡ Some row
    → first_state states (rows_of lines) ≡ unwrap_or (find_text states (the_word row 1)) 0
first_of_rows states lines row e = first_is states lines ∙ ap (state_or states) e
