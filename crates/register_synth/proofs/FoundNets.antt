-- Nets that were found, as the code keeps them.
use Rattle.std.proofs.Common.{◌≡◌, ℕ, ◌<◌, List, length, slice_index, slice_index_or, All, ap, arith}
use Rattle.std.proofs.lemmas.List.{get_or-map, length-map}
use Rattle.tsc_net.specs.PlanView.{net_numbers}
use Rattle.tsc_net.specs.declared.ids.NetId.{NetId}

-- the number of one of them
pub found_number : (most : ℕ) (found : List ℕ) (list : List NetId) (place : ℕ) (given : NetId) → All (λ n. n < most) found → found ≡ net_numbers list → place < length list
    → given ≡ slice_index_or list place given → given.number < most
found_number most found list place given all is within at =
    let e : slice_index (net_numbers list) place ≡ (slice_index_or list place given).number = get_or-map (λ net. net.number) list place given 0 within in
    let low : slice_index found place < most = all place 0 (omega (arith, within, ap length is, length-map list (λ net. net.number))) in
    omega (arith, low, e, ap (λ ns. slice_index ns place) is, ap (λ (net : NetId). net.number) at)
