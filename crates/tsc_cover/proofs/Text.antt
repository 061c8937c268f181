-- Rows and their characters: each gives the other back.
use Rattle.std.proofs.Common.{◌≡◌, ℕ, zero, suc, ◌+◌, ◌<◌, true, false, ◌&&◌, ◌||◌, eqb, List, [], ◌∷◌, ◌++◌, length, take, refl, sym, ap, ap₂, arith, eqb-true, add-one, subst, inl, inr}
use Rattle.std.proofs.lemmas.Bool.{and_parts, or_cases}
use Rattle.tsc_cover.specs.Cover.{Literal, Free, Wants, literal_at}
use Rattle.tsc_cover.specs.Text.{is_literal, literal_of, character_of, is_row_text, literals_of_text, text_of_literals}

literal_of-character_of : (l : Literal) → literal_of (character_of l) ≡ l
literal_of-character_of Free = refl
literal_of-character_of (Wants true) = refl
literal_of-character_of (Wants false) = refl

is_literal-character_of : (l : Literal) → is_literal (character_of l) ≡ true
is_literal-character_of Free = refl
is_literal-character_of (Wants true) = refl
is_literal-character_of (Wants false) = refl

-- the characters of a row are read as that row
pub literals_of_text-text_of_literals : (row : List Literal) → literals_of_text (text_of_literals row) ≡ row
literals_of_text-text_of_literals [] = refl
literals_of_text-text_of_literals (l ∷ row) =
    ap₂ (λ x xs. x ∷ xs) (literal_of-character_of l) (literals_of_text-text_of_literals row)

-- the text of literals is a text of a row
pub is_row_text-text_of_literals : (row : List Literal) → is_row_text (text_of_literals row) ≡ true
is_row_text-text_of_literals [] = refl
is_row_text-text_of_literals (l ∷ row) =
    ap₂ (λ x y. x && y) (is_literal-character_of l) (is_row_text-text_of_literals row)

-- the text of literals has one character per literal
pub length-text_of_literals : (row : List Literal) → length (text_of_literals row) ≡ length row
length-text_of_literals [] = refl
length-text_of_literals (l ∷ row) = ap suc (length-text_of_literals row)

-- the next character of a row
pub take-text_of_literals : (row : List Literal) (pin : ℕ) → pin < length row → take (pin + 1) (text_of_literals row) ≡ take pin (text_of_literals row) ++ character_of (literal_at row pin) ∷ []
take-text_of_literals [] pin h = absurd (omega arith)
take-text_of_literals (l ∷ row) zero h = refl
take-text_of_literals (l ∷ row) (suc pin) h =
    rw (add-one (suc pin)) (ap (λ xs. character_of l ∷ xs) (sym (rw add-one at (sym (take-text_of_literals row pin (omega arith))))))

to-character : (c known : ℕ) → eqb c known ≡ true → character_of (literal_of known) ≡ known → character_of (literal_of c) ≡ c
to-character c known h e =
    let P : ℕ → Type 0 = λ x. character_of (literal_of x) ≡ x in subst P (sym (eqb-true c known h)) e

character_of-literal_of : (c : ℕ) → is_literal c ≡ true → character_of (literal_of c) ≡ c
character_of-literal_of c h =
    elim (or_cases (eqb c 48 || eqb c 49) (eqb c 45) h) [
      | inl either ↦
          elim (or_cases (eqb c 48) (eqb c 49) either) [
            | inl zero_there ↦ to-character c 48 zero_there refl
            | inr one_there ↦ to-character c 49 one_there refl
          ]
      | inr dash ↦ to-character c 45 dash refl
    ]

-- a text that is read as a row is that row's text
pub text_of_literals-literals_of_text : (text : List ℕ) → is_row_text text ≡ true → text_of_literals (literals_of_text text) ≡ text
text_of_literals-literals_of_text [] h = refl
text_of_literals-literals_of_text (c ∷ text) h =
    let parts : (is_literal c ≡ true) × (is_row_text text ≡ true) = and_parts (is_literal c) (is_row_text text) h in
    ap₂ (λ x xs. x ∷ xs) (character_of-literal_of c parts.0) (text_of_literals-literals_of_text text parts.1)

-- a text has one literal per character
pub length-literals_of_text : (text : List ℕ) → length (literals_of_text text) ≡ length text
length-literals_of_text [] = refl
length-literals_of_text (c ∷ text) = ap suc (length-literals_of_text text)
