-- Tables by which names are looked up.
use Rattle.std.specs.Prelude.{◌≡◌, ℕ, List}
use Rattle.std.specs.HashMap.{HashMap, get_by}
use Rattle.std.specs.Str.{bytes_eq}
use Rattle.tsc_net.specs.Names.{find_text}
use denote.Ref.{Bor}

-- the table has each text of the list with its place there, and no other text
abbrev pub HasPlaces : {S : Type 0} → List (List ℕ) → HashMap (Bor (List ℕ)) ℕ S → Type 0
HasPlaces texts table = (text : List ℕ) → get_by (λ key. bytes_eq text key.now) table ≡ find_text texts text
