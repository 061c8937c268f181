-- Lists of names: the name at a place, and tables of names that grow.
use Rattle.std.specs.Prelude.{◌≡◌, ℕ, ◌<◌, ◌≤◌, List, length, slice_index_or}
use Rattle.tsc_net.specs.Names.{text_at}
use Rattle.tsc_net.specs.declared.ids.Name.{Name}

-- the name at a place
abbrev pub name_at : List Name → ℕ → Name
name_at names place = slice_index_or names place (record { number = 0 })

-- each name that was in the table is there still, under its number
pub record Keeps (old new : List (List ℕ)) : Type 0 where
  pub longer : length old ≤ length new
  pub kept : (number : ℕ) → number < length old → text_at new number ≡ text_at old number
