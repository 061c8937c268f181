-- What a word of a refutation says, and how its lines begin.
use Rattle.std.specs.Prelude.{ℕ, Bool, not, ◌&&◌, ◌==◌, nat_lt, List, [], ◌∷◌, codes, Option, None, Some, if◌then◌else◌}
use Rattle.std.specs.Str.{bytes_eq}
use Rattle.tsc_text.specs.Number.{number_of}
use Rattle.tsc_text.specs.TextLine.{TextLine, the_word}
use Rattle.refutation_text.specs.declared.token.Token.{Token}
use Rattle.refutation_text.specs.declared.token.Token.TheVariants.{Zero, Positive, Negative, Other}

-- what a number says, if it is below 2^31
abbrev pub counted : Option ℕ → Token
counted None = Other
counted (Some n) = if n == 0 then Zero else (if nat_lt n 2147483648 then Positive n else Other)

-- what a word says with a `-` before it
abbrev pub negated : Token → Token
negated Zero = Other
negated (Positive n) = Negative n
negated (Negative n) = Other
negated Other = Other

-- what a word says
abbrev pub token_of : List ℕ → Token
token_of [] = Other
token_of (b ∷ bytes) = if b == 45 then negated (counted (number_of bytes)) else counted (number_of (b ∷ bytes))

-- whether a line is passed over: its first word is `c`
abbrev pub is_remark : TextLine → Bool
is_remark line = not line.is_plan && bytes_eq (the_word line 0) (codes "c")

-- whether a line is to be a deletion: its second word is `d`
abbrev pub is_deletion : TextLine → Bool
is_deletion line = bytes_eq (the_word line 1) (codes "d")
