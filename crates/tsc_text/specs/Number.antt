-- Words that are numbers.
use Rattle.std.specs.Prelude.{ℕ, ◌+◌, ◌-◌, ◌*◌, ◌^◌, Bool, cond, ◌&&◌, List, [], ◌∷◌, length, nat_le, nat_lt, Option, None, Some}
use Rattle.std.specs.List.{list_all}

-- whether a byte is a decimal digit
abbrev pub is_digit : ℕ → Bool
is_digit b = nat_le 48 b && nat_le b 57

-- the value of the digits that follow those of value `n`
abbrev pub value_from : ℕ → List ℕ → ℕ
value_from n [] = n
value_from n (b ∷ bs) = value_from (10 * n + (b - 48)) bs

-- the value of a word's digits
abbrev pub value_of : List ℕ → ℕ
value_of word = value_from 0 word

-- whether a word is 1 to 20 decimal digits of a value below 2^64
abbrev pub is_number : List ℕ → Bool
is_number word = (nat_le 1 (length word) && nat_le (length word) 20) && (list_all is_digit word && nat_lt (value_of word) (2 ^ 64))

-- the number that a word is, if it is one
abbrev pub number_of : List ℕ → Option ℕ
number_of word = cond (is_number word) (Some (value_of word)) None

-- the value `n` with one more digit, if it is a digit and the value stays below 2^64
abbrev pub value_with : ℕ → ℕ → Option ℕ
value_with n b = cond (is_digit b && nat_lt (10 * n + (b - 48)) (2 ^ 64)) (Some (10 * n + (b - 48))) None
