-- A row has two words.
use Rattle.std.proofs.Common.{◌≡◌, ◌≢◌, ℕ, false, true, ◌&&◌, eqb, List, [], ◌∷◌, length, get_or, refl, arith, eqb-true}
use Rattle.std.specs.List.{list_all}
use Rattle.std.proofs.lemmas.Bool.{and_parts}
use Rattle.tsc_cover.specs.Text.{is_row_text}
use Rattle.table_lines.specs.LineFaults.{is_pattern}
use Rattle.pla_read.specs.RowText.{are_marks, has_row_shape, is_mark}

pub row_of_two : (inputs outputs : ℕ) (words : List (List ℕ)) → length words ≡ 2
    → has_row_shape inputs outputs words ≡ (is_pattern inputs (get_or words 0 []) && are_marks outputs (get_or words 1 []))
row_of_two inputs outputs [] e = absurd (omega arith)
row_of_two inputs outputs (a ∷ []) e = absurd (omega arith)
row_of_two inputs outputs (a ∷ b ∷ []) e = refl
row_of_two inputs outputs (a ∷ b ∷ c ∷ words) e = absurd (omega arith)

pub row_of_others : (inputs outputs : ℕ) (words : List (List ℕ)) → length words ≢ 2 → has_row_shape inputs outputs words ≡ false
row_of_others inputs outputs [] e = refl
row_of_others inputs outputs (a ∷ []) e = refl
row_of_others inputs outputs (a ∷ b ∷ []) e = absurd (e refl)
row_of_others inputs outputs (a ∷ b ∷ c ∷ words) e = refl

-- the two words of a row
pub record HasWords (inputs outputs : ℕ) (words : List (List ℕ)) : Type 0 where
  pub two : length words ≡ 2
  pub input_wide : length (get_or words 0 []) ≡ inputs
  pub input_read : is_row_text (get_or words 0 []) ≡ true
  pub output_wide : length (get_or words 1 []) ≡ outputs

-- a row of that shape has these two words
pub words_of_shape : (inputs outputs : ℕ) (words : List (List ℕ)) → has_row_shape inputs outputs words ≡ true → HasWords inputs outputs words
words_of_shape inputs outputs [] e = cc
words_of_shape inputs outputs (a ∷ []) e = cc
words_of_shape inputs outputs (a ∷ b ∷ []) e =
    let both = and_parts (is_pattern inputs a) (are_marks outputs b) e in
    let input = and_parts (eqb (length a) inputs) (is_row_text a) both.0 in
    let output = and_parts (eqb (length b) outputs) (list_all is_mark b) both.1 in
    record {
      two = refl;
      input_wide = eqb-true (length a) inputs input.0;
      input_read = input.1;
      output_wide = eqb-true (length b) outputs output.0;
    }
words_of_shape inputs outputs (a ∷ b ∷ c ∷ words) e = cc
