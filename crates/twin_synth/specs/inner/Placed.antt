-- Numbers that are put into a list at some places.
use Rattle.std.specs.Prelude.{◌≡◌, ℕ, ◌+◌, ◌<◌, List, length, slice_index}

-- the places rise
abbrev pub Rise : List ℕ → Type 0
Rise places = (i k : ℕ) → i < k → k < length places → slice_index places i < slice_index places k

-- at these places, counted from `first` on, stand the numbers from `from` on; before `first` nothing changed
pub record ArePlaced (first : ℕ) (places : List ℕ) (from : ℕ) (old new : List ℕ) : Type 0 where
  pub sized : length new ≡ length old
  pub before : (n : ℕ) → n < first → slice_index new n ≡ slice_index old n
  pub placed : (k : ℕ) → k < length places → slice_index new (first + slice_index places k) ≡ from + k
