-- Counts of faults and of calls. They are kept in 64 bits, and stay at their last value once they are there.
use Rattle.std.specs.Prelude.{◌≡◌, ℕ, ◌+◌, ◌<◌, ◌⊎◌, min}

-- a count rose in a call: it is greater after the call, or it stood at its last value
abbrev pub Rose : ℕ → ℕ → Type 0
Rose before after = (before < after) ⊎ (before ≡ 18446744073709551615)

-- the count after one more, which stops at the last value
abbrev pub next_count : ℕ → ℕ
next_count count = min (count + 1) 18446744073709551615
