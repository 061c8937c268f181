-- A row has four words.
use Rattle.std.proofs.Common.{◌≡◌, ◌≢◌, ℕ, false, not, ◌&&◌, List, [], ◌∷◌, codes, length, get_or, refl, arith}
use Rattle.std.specs.Str.{bytes_eq}
use Rattle.table_lines.specs.LineFaults.{is_pattern}
use Rattle.kiss_read.specs.RowText.{has_row_shape}

pub row_of_four : (inputs outputs : ℕ) (words : List (List ℕ)) → length words ≡ 4
    → has_row_shape inputs outputs words
    ≡ ((is_pattern inputs (get_or words 0 []) && is_pattern outputs (get_or words 3 [])) && not (bytes_eq (get_or words 1 []) (codes "-")))
row_of_four inputs outputs [] e = absurd (omega arith)
row_of_four inputs outputs (a ∷ []) e = absurd (omega arith)
row_of_four inputs outputs (a ∷ b ∷ []) e = absurd (omega arith)
row_of_four inputs outputs (a ∷ b ∷ c ∷ []) e = absurd (omega arith)
row_of_four inputs outputs (a ∷ b ∷ c ∷ d ∷ []) e = refl
row_of_four inputs outputs (a ∷ b ∷ c ∷ d ∷ f ∷ words) e = absurd (omega arith)

pub row_of_others : (inputs outputs : ℕ) (words : List (List ℕ)) → length words ≢ 4 → has_row_shape inputs outputs words ≡ false
row_of_others inputs outputs [] e = refl
row_of_others inputs outputs (a ∷ []) e = refl
row_of_others inputs outputs (a ∷ b ∷ []) e = refl
row_of_others inputs outputs (a ∷ b ∷ c ∷ []) e = refl
row_of_others inputs outputs (a ∷ b ∷ c ∷ d ∷ []) e = absurd (e refl)
row_of_others inputs outputs (a ∷ b ∷ c ∷ d ∷ f ∷ words) e = refl
