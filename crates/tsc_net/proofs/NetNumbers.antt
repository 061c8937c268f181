-- The numbers of the nets of a list.
use Rattle.std.proofs.Common.{◌≡◌, ℕ, ◌<◌, true, eqb, eq-eqb, List, length, slice_index, slice_index_or, get_or, refl, subst, All, arith, ap, sym, ◌∙◌}
use Rattle.std.proofs.lemmas.List.{get_or-map, length-map}
use Rattle.std.proofs.lemmas.List.Folds.{list_any_at}
use Rattle.tsc_net.specs.Order.{has_place}
use Rattle.tsc_net.specs.PlanView.{net_numbers}
use Rattle.tsc_net.specs.declared.ids.NetId.{NetId}

-- the number of the net at a place
pub number_at : (list : List NetId) (place : ℕ) (d : NetId) → place < length list → slice_index (net_numbers list) place ≡ (slice_index_or list place d).number
number_at list place d low = get_or-map (λ net. net.number) list place d 0 low

-- what holds of the numbers of all nets
pub all_numbers : (P : ℕ → Type 0) (list : List NetId) → All P (net_numbers list) → All (λ net. P net.number) list
all_numbers P list all k d inside =
    subst P (get_or-map (λ (net : NetId). net.number) list k d d.number inside) (all k d.number (omega (arith, length-map list (λ (net : NetId). net.number))))

-- each number of a list stands in it
pub has_own : (xs : List ℕ) → All (λ j. has_place xs j ≡ true) xs
has_own xs k d inside = list_any_at (λ i. eqb i (get_or xs k d)) xs k d inside (eq-eqb (get_or xs k d) (get_or xs k d) refl)

-- so many nets by numbers
pub numbers_counted : (nets : List NetId) (numbers : List ℕ) → net_numbers nets ≡ numbers → length nets ≡ length numbers
numbers_counted nets numbers is = sym (length-map nets (λ net. net.number)) ∙ ap length is

-- each net of a list is watched where that list is
pub are_watched : (watched : List ℕ) (list : List NetId) → watched ≡ net_numbers list → All (λ net. has_place watched net.number ≡ true) list
are_watched watched list same =
    subst (λ (numbers : List ℕ). All (λ net. has_place numbers net.number ≡ true) list) (sym same)
    (all_numbers (λ j. has_place (net_numbers list) j ≡ true) list (has_own (net_numbers list)))
