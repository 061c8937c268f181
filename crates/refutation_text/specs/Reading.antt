-- What the code has read of a line.
use Rattle.std.specs.Prelude.{ℕ, Bool, List, ◌++◌, drop, Option, None, Some, if◌then◌else◌}
use Rattle.refutations.specs.declared.literal.Literal.{Literal}
use Rattle.refutation_text.specs.RefutationLine.{Addition, Front, Numbers}

-- literals that were read before others
abbrev pub literals_before : List Literal → Option Front → Option Front
literals_before literals None = None
literals_before literals (Some front) = Some (record front { literals = literals ++ front.literals })

-- the literals that were read, with the place after their 0 among the words
abbrev pub front_at : List (List ℕ) → List Literal → Option ℕ → Option Front
front_at words literals None = None
front_at words literals (Some past) = Some (record { literals = literals; rest = drop past words })

-- numbers that were read before others
abbrev pub numbers_before : List ℕ → Option Numbers → Option Numbers
numbers_before numbers None = None
numbers_before numbers (Some found) = Some (record found { numbers = numbers ++ found.numbers })

-- the numbers that were read, with whether a negative one came
abbrev pub numbers_with : List ℕ → Option Bool → Option Numbers
numbers_with numbers None = None
numbers_with numbers (Some has_negative) = Some (record { numbers = numbers; has_negative = has_negative })

-- the addition whose literals and hints were read, with its number
abbrev pub addition_read : List Literal → List ℕ → Option ℕ → Option Addition
addition_read literals hints None = None
addition_read literals hints (Some number) = Some (record { number = number; literals = literals; hints = hints })

-- the numbers that were read, if they are a deletion's
abbrev pub deletions_read : List ℕ → Bool → Option (List ℕ)
deletions_read numbers is_read = if is_read then Some numbers else None
