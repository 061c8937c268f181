-- Nets that are known by their numbers, as roots of a cone.
use Rattle.std.proofs.Common.{◌≡◌, ℕ, ◌<◌, List, length, slice_index, slice_index_or, All, sym, ◌∙◌, ap, arith}
use Rattle.std.proofs.lemmas.List.{length-map, get_or-map}
use Rattle.std.proofs.lemmas.List.Elements.{All-get_or}
use Rattle.fault_secure.specs.Circuit.{Circuit, nets}
use Rattle.tsc_net.specs.PlanView.{net_numbers}
use Rattle.tsc_net.specs.declared.ids.NetId.{NetId}

-- nets by numbers that are below the number of nets
pub numbers_below : (m : ℕ) (numbers : List ℕ) (roots : List NetId) → All (λ net. net < m) numbers → net_numbers roots ≡ numbers → All (λ root. root.number < m) roots
numbers_below m numbers roots all is k d there =
    let count : length (net_numbers roots) ≡ length roots = length-map roots (λ net. net.number) in
    let same : length (net_numbers roots) ≡ length numbers = ap length is in
    let number : (slice_index_or roots k d).number ≡ slice_index numbers k = sym (get_or-map (λ net. net.number) roots k d 0 there) ∙ ap (λ list. slice_index list k) is in
    let below : slice_index numbers k < m = All-get_or (λ net. net < m) numbers k 0 (omega arith) all in
    omega arith

-- the outputs are nets
pub nets_are_below : (C : Circuit) (roots : List NetId) → All (λ net. net < nets C) C.outputs → net_numbers roots ≡ C.outputs → All (λ root. root.number < nets C) roots
nets_are_below C roots all is = numbers_below (nets C) C.outputs roots all is
