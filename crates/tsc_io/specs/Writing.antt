-- What a sink gained while it was written to.
use Rattle.std.specs.Prelude.{ℕ, ◌≤◌, Option, List, length, take}
use Rattle.std.specs.Io.KnownBytes.{Appends}

-- what was written grew from `old` to `new` by some first bytes of `bytes`: none, some or all of them
abbrev pub AppendsPrefix : Option (List ℕ) → Option (List ℕ) → List ℕ → Type 0
AppendsPrefix old new bytes = (count : ℕ) × (count ≤ length bytes) × Appends old new (take count bytes)
