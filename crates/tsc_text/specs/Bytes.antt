-- The bytes of a text: which it may hold, and in which physical line each stands.
use Rattle.std.specs.Prelude.{ℕ, ◌+◌, Bool, false, cond, ◌||◌, ◌&&◌, ◌==◌, List, [], ◌∷◌, Option, None, Some, nat_le}

-- the byte that ends a physical line
abbrev pub is_feed : ℕ → Bool
is_feed b = b == 10

-- the bytes that part words
abbrev pub is_blank : ℕ → Bool
is_blank b = (b == 32) || ((b == 9) || (b == 13))

-- the bytes that a text may hold: printable ASCII, tab, CR and LF
abbrev pub is_allowed : ℕ → Bool
is_allowed b = (nat_le 32 b && nat_le b 126) || ((b == 9) || ((b == 13) || (b == 10)))

-- the number of the physical line after the byte `b` of line `number`
abbrev pub number_after : ℕ → ℕ → ℕ
number_after number b = cond (is_feed b) (number + 1) number

-- the physical line of the first byte that a text may not hold, where the text begins in line `number`
abbrev pub bad_line_from : ℕ → List ℕ → Option ℕ
bad_line_from number [] = None
bad_line_from number (b ∷ bs) = cond (is_allowed b) (bad_line_from (number_after number b) bs) (Some number)

-- the physical line of the first byte that a text may not hold
abbrev pub bad_line : List ℕ → Option ℕ
bad_line text = bad_line_from 1 text

-- whether a word begins with a dot
abbrev pub begins_with_dot : List ℕ → Bool
begins_with_dot [] = false
begins_with_dot (b ∷ bytes) = b == 46
