-- The rows of lines that have their shape have a literal an input.
use Rattle.std.proofs.Common.{◌≡◌, ℕ, Bool, true, false, cond, List, [], ◌∷◌, map, length, All, refl, ◌∙◌}
use Rattle.std.proofs.lemmas.List.{length-map}
use Rattle.std.proofs.lemmas.List.Elements.{All-cons, All-head, All-nil, All-tail}
use Rattle.tsc_text.specs.TextLine.{TextLine, the_word}
use Rattle.pla_read.specs.Selections.{is_of, rows_of}
use Rattle.pla_read.specs.RowText.{row_at, TableRow}
use Rattle.pla_read.specs.Shaped.{AreShaped, IsShaped}
use Rattle.pla_read.specs.declared.kinds.LineKind.TheVariants.{Row}
use Rattle.pla_read.proofs.RowShapes.{words_of_shape}

module _ (inputs outputs : ℕ) (frees : Bool) where
  abbrev IsWide : TableRow → Type 0
  IsWide row = length row.input ≡ inputs

  pub rows_wide : (lines : List TextLine) → AreShaped inputs outputs lines → All IsWide (map (row_at frees) (rows_of lines))
  rows_wide [] shaped = All-nil IsWide
  rows_wide (line ∷ lines) shaped =
      by (is_of Row line) refl (rows_wide lines (All-tail (IsShaped inputs outputs) line lines shaped))
    where
      wide_row : is_of Row line ≡ true → IsWide (row_at frees line)
      wide_row is =
          length-map (the_word line 0) _
          ∙ (words_of_shape inputs outputs line.words (All-head (IsShaped inputs outputs) line lines shaped is)).input_wide

      by : (b : Bool) → is_of Row line ≡ b → All IsWide (map (row_at frees) (rows_of lines))
          → All IsWide (map (row_at frees) (cond b (line ∷ rows_of lines) (rows_of lines)))
      by true is rest = All-cons IsWide (row_at frees line) (map (row_at frees) (rows_of lines)) (wide_row is) rest
      by false is rest = rest
