-- The names of nets within a table of names.
use Rattle.std.specs.Prelude.{◌≡◌, ℕ, ◌+◌, ◌<◌, ◌^◌, List, length, All, if◌then◌else◌, slice_index}
use Rattle.tsc_net.specs.Names.{has_text, place_of_text, text_at}
use Rattle.tsc_net.specs.PartsView.{texts_of, IsName}
use Rattle.tsc_net.specs.declared.net_names.Driven.{Driven}

-- the names of the table, and those of the nets, in the order of nets
pub record NetNamesOf : Type 0 where
  pub names : List (List ℕ)
  pub nets : List (List ℕ)

-- one more than the place of the text, and 0 where it doesn't stand there
abbrev pub mark_of : List (List ℕ) → List ℕ → ℕ
mark_of texts text = if has_text texts text then place_of_text texts text + 1 else 0

-- the marks of the names, by their places among the texts
pub record AreMarks (names texts : List (List ℕ)) (marks : List ℕ) : Type 0 where
  pub sized : length marks ≡ length names
  pub marked : (n : ℕ) → n < length names → slice_index marks n ≡ mark_of texts (text_at names n)

-- what is driven are names of the table, each marked by its net, and numbers suffice
pub record KeepsMarks (names : List (List ℕ)) (driven : Driven) : Type 0 where
  pub within : All (IsName names) driven.nets
  pub marks : AreMarks names (texts_of names driven.nets) driven.marks.items
  pub few : length driven.nets < 2 ^ 32
