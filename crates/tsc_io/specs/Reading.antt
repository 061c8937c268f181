-- What came from a source while it was read.
use Rattle.std.specs.Prelude.{ℕ, ◌<◌, Option, List, length}
use Rattle.std.specs.Io.KnownBytes.{Consumes}

-- from a source that had the bytes `old` left and has the bytes `new` left, more than `limit` bytes came
abbrev pub CameMore : ℕ → Option (List ℕ) → Option (List ℕ) → Type 0
CameMore limit old new = (came : List ℕ) × Consumes old new came × (limit < length came)
