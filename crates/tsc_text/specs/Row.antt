-- A line by the places of its words, and a line as it is kept: its number and how it ends.
use Rattle.std.specs.Prelude.{ℕ, Bool, false, List, slice_index_or}

-- how a line ends: whether it is a plan line, whether it has one word more than kept places (one byte, one byte after the last of them),
-- and how many places it and all lines before it keep
pub record Mark : Type 0 where
  pub is_plan : Bool
  pub has_byte : Bool
  pub past : ℕ

-- a line as it is kept: the number of its first physical line, and how it ends
pub record KeptLine : Type 0 where
  pub number : ℕ
  pub mark : Mark

-- the line that is numbered and ends so
abbrev pub kept_line : ℕ → Mark → KeptLine
kept_line number mark = record { number = number; mark = mark }

-- no line
abbrev pub no_kept : KeptLine
no_kept = record { number = 0; mark = record { is_plan = false; has_byte = false; past = 0 } }

-- the kept line at a place
abbrev pub the_kept : List KeptLine → ℕ → KeptLine
the_kept lines line = slice_index_or lines line no_kept

-- a line by its words' places: the number of its first physical line, whether it is a plan line, and how many words it and all lines before it have
pub record PlacedLine : Type 0 where
  pub number : ℕ
  pub is_plan : Bool
  pub past : ℕ

-- no line
abbrev pub no_row : PlacedLine
no_row = record { number = 0; is_plan = false; past = 0 }

-- the line at a place
abbrev pub the_row : List PlacedLine → ℕ → PlacedLine
the_row rows line = slice_index_or rows line no_row
