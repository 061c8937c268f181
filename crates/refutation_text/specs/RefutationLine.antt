-- What a line of a refutation says: an addition, `NUMBER LITERAL.. 0 HINT.. 0`, or a deletion, `NUMBER d NUMBER.. 0`.
use Rattle.std.specs.Prelude.{ℕ, ◌-◌, ◌==◌, Bool, true, false, List, [], ◌∷◌, drop, length, Option, None, Some, if◌then◌else◌}
use Rattle.tsc_text.specs.TextLine.{TextLine, the_word}
use Rattle.refutations.specs.declared.literal.Literal.{Literal}
use Rattle.refutation_text.specs.declared.token.Token.{Token}
use Rattle.refutation_text.specs.declared.token.Token.TheVariants.{Zero, Positive, Negative, Other}
use Rattle.refutation_text.specs.Token.{token_of}

-- the literal of a number above 0: variables count from 1 in the text
abbrev pub literal_of : ℕ → Bool → Literal
literal_of n wants = record { variable = n - 1; wants = wants }

-- literals up to the first 0, and the words after it
pub record Front : Type 0 where
  pub literals : List Literal
  pub rest : List (List ℕ)

-- the same with one more literal before them
abbrev pub with_literal : Literal → Option Front → Option Front
with_literal l None = None
with_literal l (Some front) = Some (record front { literals = l ∷ front.literals })

-- what a word and the words after it give
abbrev pub front_by : Token → List (List ℕ) → Option Front → Option Front
front_by Zero rest later = Some (record { literals = []; rest = rest })
front_by (Positive n) rest later = with_literal (literal_of n true) later
front_by (Negative n) rest later = with_literal (literal_of n false) later
front_by Other rest later = None

-- the literals of words up to the first 0, if there is one and no other word stands before it
abbrev pub front_of : List (List ℕ) → Option Front
front_of [] = None
front_of (w ∷ ws) = front_by (token_of w) ws (front_of ws)

-- whether a word and the words after it are numbers, with or without a `-`, and a 0 at the end alone
abbrev pub closed_by : Token → List (List ℕ) → Bool → Bool
closed_by Zero rest later = length rest == 0
closed_by (Positive n) rest later = later
closed_by (Negative n) rest later = later
closed_by Other rest later = false

-- whether words are such
abbrev pub are_closed : List (List ℕ) → Bool
are_closed [] = false
are_closed (w ∷ ws) = closed_by (token_of w) ws (are_closed ws)

-- numbers up to the closing 0 or to the first negative one, and whether there is a negative one
pub record Numbers : Type 0 where
  pub numbers : List ℕ
  pub has_negative : Bool

-- the same with one more number before them
abbrev pub with_number : ℕ → Option Numbers → Option Numbers
with_number n None = None
with_number n (Some found) = Some (record found { numbers = n ∷ found.numbers })

-- no numbers, if words are closed
abbrev pub closed_with : Bool → Bool → Option Numbers
closed_with has_negative true = Some (record { numbers = []; has_negative = has_negative })
closed_with has_negative false = None

-- what a word and the words after it give
abbrev pub numbers_by : Token → List (List ℕ) → Option Numbers → Option Numbers
numbers_by Zero rest later = closed_with false (length rest == 0)
numbers_by (Positive n) rest later = with_number n later
numbers_by (Negative n) rest later = closed_with true (are_closed rest)
numbers_by Other rest later = None

-- the numbers of words, if the words are closed
abbrev pub numbers_of : List (List ℕ) → Option Numbers
numbers_of [] = None
numbers_of (w ∷ ws) = numbers_by (token_of w) ws (numbers_of ws)

-- an addition: its number, the literals of its clause, and its hints up to the first negative one
pub record Addition : Type 0 where
  pub number : ℕ
  pub literals : List Literal
  pub hints : List ℕ

-- the number of a line, from its first word
abbrev pub line_number : Token → Option ℕ
line_number Zero = Some 0
line_number (Positive n) = Some n
line_number (Negative n) = None
line_number Other = None

-- the addition of a number, literals and hints
abbrev pub addition_with : ℕ → List Literal → Option Numbers → Option Addition
addition_with number literals None = None
addition_with number literals (Some found) = Some (record { number = number; literals = literals; hints = found.numbers })

-- the addition of a number and what follows it
abbrev pub addition_after : ℕ → Option Front → Option Addition
addition_after number None = None
addition_after number (Some front) = addition_with number front.literals (numbers_of front.rest)

-- the same, if there is a number
abbrev pub addition_by : Option ℕ → Option Front → Option Addition
addition_by None front = None
addition_by (Some number) front = addition_after number front

-- the addition that a line is, if it is one
abbrev pub addition_of : TextLine → Option Addition
addition_of line = if line.is_plan then None else addition_by (line_number (token_of (the_word line 0))) (front_of (drop 1 line.words))

-- the numbers, if none is negative
abbrev pub without_negative : Option Numbers → Option (List ℕ)
without_negative None = None
without_negative (Some found) = if found.has_negative then None else Some found.numbers

-- the numbers to be deleted, after a number
abbrev pub deletions_by : Option ℕ → Option Numbers → Option (List ℕ)
deletions_by None found = None
deletions_by (Some number) found = without_negative found

-- the numbers of the clauses that a deletion deletes, where the line is one: its second word is `d`
abbrev pub deletions_of : TextLine → Option (List ℕ)
deletions_of line = if line.is_plan then None else deletions_by (line_number (token_of (the_word line 0))) (numbers_of (drop 2 line.words))
