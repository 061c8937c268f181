-- What is known of variables, and the trail that undoes it.
use Rattle.std.specs.Prelude.{◌≡◌, ℕ, ◌<◌, ◌≤◌, Bool, List, length, slice_index_or, Option, Some, None, All}

-- each variable of which something is known stands in the trail, at a place that isn't undone yet
pub record IsTrailed (undone : ℕ) (values : List (Option Bool)) (trail : List ℕ) : Type 0 where
  pub within : All (λ variable. variable < length values) trail
  pub noted : (k : ℕ) (bit : Bool) → slice_index_or values k None ≡ Some bit → (i : ℕ) × (undone ≤ i) × (i < length trail) × (slice_index_or trail i 0 ≡ k)
