-- The first of some numbers at which something holds.
use Rattle.std.specs.Prelude.{ℕ, ◌<◌, ◌≤◌, Option, Some, None}

-- the first number from `low` on and below `high` at which E holds; none where it holds at none of them
abbrev pub IsFirstIn : (ℕ → Type 0) → ℕ → ℕ → Option ℕ → Type 0
IsFirstIn E low high None = (p : ℕ) → low ≤ p → p < high → E p → ⊥
IsFirstIn E low high (Some place) = (low ≤ place) × (place < high) × E place × ((p : ℕ) → low ≤ p → p < place → E p → ⊥)
