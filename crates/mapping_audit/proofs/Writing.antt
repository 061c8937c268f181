-- A table at the place that was written, and elsewhere.
use Rattle.std.proofs.Common.{◌≡◌, ℕ, ◌<◌, List, length, slice_index, slice_set}
use Rattle.std.proofs.lemmas.List.{get_or-set_same, get_or-set_other}

pub written : (xs : List ℕ) (i x : ℕ) → i < length xs → slice_index (slice_set xs i x) i ≡ x
written xs i x within = get_or-set_same xs i x 0 within

pub kept : (xs : List ℕ) (i x k : ℕ) → (k ≡ i → ⊥) → slice_index (slice_set xs i x) k ≡ slice_index xs k
kept xs i x k other = get_or-set_other xs i k x 0 other
