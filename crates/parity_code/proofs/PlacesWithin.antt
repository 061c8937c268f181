-- What holds of the places of groups holds of those of each.
use Rattle.std.proofs.Common.{ℕ, zero, suc, List, [], ◌∷◌, ◌++◌, slice_index_or, All}
use Rattle.std.proofs.lemmas.List.Elements.{All-head, All-tail, All-nil, All-cons}
use Rattle.fault_secure.specs.CodePlan.{concat_places}

-- a place of a group is a place of the groups together
pub places_within : (P : ℕ → Type 0) (groups : List (List ℕ)) → All P (concat_places groups) → (i : ℕ) → All P (slice_index_or groups i [])
places_within P [] all i = All-nil P
places_within P (group ∷ groups) all zero = front group all
  where
    front : (xs : List ℕ) → All P (xs ++ concat_places groups) → All P xs
    front [] all = All-nil P
    front (x ∷ xs) all = All-cons P x xs (All-head P x (xs ++ concat_places groups) all) (front xs (All-tail P x (xs ++ concat_places groups) all))
places_within P (group ∷ groups) all (suc i) = places_within P groups (behind group all) i
  where
    behind : (xs : List ℕ) → All P (xs ++ concat_places groups) → All P (concat_places groups)
    behind [] all = all
    behind (x ∷ xs) all = behind xs (All-tail P x (xs ++ concat_places groups) all)
