-- What names are: words that keep their limit.
use Rattle.std.specs.Prelude.{◌≡◌, ℕ, ◌≤◌, true, List, length}
use Rattle.tsc_text.specs.TextLine.{TextLine}
use Rattle.tsc_text.specs.Written.{can_be_written, is_name, written}

-- the name has at most 255 bytes
abbrev pub IsShort : List ℕ → Type 0
IsShort name = length name ≤ 255

-- the name is a word of a line that is no plan line
abbrev pub IsName : List ℕ → Type 0
IsName name = is_name name ≡ true

-- the line can be written, as each line of a text can
abbrev pub HasWords : TextLine → Type 0
HasWords line = can_be_written (written line) ≡ true
