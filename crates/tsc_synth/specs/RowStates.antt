-- At how many states a row of a table may answer.
use Rattle.std.specs.Prelude.{ℕ, Option, None, Some}

-- at all of so many states where it names none, and else at one
abbrev pub states_of_row : ℕ → Option ℕ → ℕ
states_of_row states None = states
states_of_row states (Some from) = 1
