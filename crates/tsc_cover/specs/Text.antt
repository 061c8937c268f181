-- Rows as characters, one per pin: `0` and `1` ask for that bit, and `-` for none.
use Rattle.std.specs.Prelude.{ℕ, ◌==◌, Bool, true, false, ◌||◌, if◌then◌else◌, List, map}
use Rattle.std.specs.List.{list_all}
use Rattle.tsc_cover.specs.Cover.{Literal, Free, Wants}

-- the character is `0`, `1` or `-`
abbrev pub is_literal : ℕ → Bool
is_literal character = character == 48 || character == 49 || character == 45

-- the literal that a character stands for
abbrev pub literal_of : ℕ → Literal
literal_of character =
    if character == 48 then Wants false else (if character == 49 then Wants true else Free)

-- the character of a literal
abbrev pub character_of : Literal → ℕ
character_of Free = 45
character_of (Wants wanted) = if wanted then 49 else 48

-- the text is the characters of a row
abbrev pub is_row_text : List ℕ → Bool
is_row_text text = list_all is_literal text

-- the literals that the characters of a row stand for
abbrev pub literals_of_text : List ℕ → List Literal
literals_of_text text = map literal_of text

-- the characters of a row
abbrev pub text_of_literals : List Literal → List ℕ
text_of_literals row = map character_of row
