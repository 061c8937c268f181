-- One output more.
use Rattle.std.proofs.Common.{◌≡◌, ℕ, ◌+◌, ◌<◌, List, [], ◌∷◌, ◌++◌, map, take, length, slice_index, slice_index_or, sym, ◌∙◌, ap, arith}
use Rattle.std.proofs.lemmas.List.{length-map, map-append, take_more}
use Rattle.std.proofs.lemmas.List.Elements.{All-get_or}
use Rattle.fault_secure.specs.Circuit.{Circuit, nets}
use Rattle.fault_secure.specs.Closed.{IsClosed}
use Rattle.tsc_net.specs.PlanView.{net_numbers}
use Rattle.tsc_net.specs.declared.ids.Name.{Name}
use Rattle.tsc_net.specs.declared.ids.NetId.{NetId}
use Rattle.net_writing.specs.Names.{name_at}
use Rattle.tsc_net.proofs.NetNumbers.{number_at}

-- an output of a closed circuit is a net
pub output_within : (C : Circuit) (outputs : List NetId) (place : ℕ) (d : NetId) → IsClosed C → net_numbers outputs ≡ C.outputs → place < length outputs → (slice_index_or outputs place d).number < nets C
output_within C outputs place d closed is low =
    let count : length outputs ≡ length C.outputs = sym (length-map outputs (λ net. net.number)) ∙ ap length is in
    let within : slice_index C.outputs place < nets C = All-get_or (λ net. net < nets C) C.outputs place 0 (omega arith) closed.outputs in
    let at : (slice_index_or outputs place d).number ≡ slice_index C.outputs place = sym (number_at outputs place d low) ∙ ap (λ (list : List ℕ). slice_index list place) is in
    omega arith

-- one name more
pub output_more : (names outputs after : List Name) (items : List NetId) (place : ℕ) (d : NetId) → place < length items → outputs ≡ map (name_at names) (take place (net_numbers items))
    → after ≡ outputs ++ name_at names (slice_index_or items place d).number ∷ [] → after ≡ map (name_at names) (take (place + 1) (net_numbers items))
output_more names outputs after items place d low so_far pushed =
    let count : length (net_numbers items) ≡ length items = length-map items (λ net. net.number) in
    let more : take (place + 1) (net_numbers items) ≡ take place (net_numbers items) ++ slice_index (net_numbers items) place ∷ [] = take_more (net_numbers items) place 0 (omega arith) in
    pushed ∙ ap (λ (list : List Name). list ++ name_at names (slice_index_or items place d).number ∷ []) so_far
    ∙ ap (λ (n : ℕ). map (name_at names) (take place (net_numbers items)) ++ name_at names n ∷ []) (sym (number_at items place d low))
    ∙ sym (map-append (name_at names) (take place (net_numbers items)) (slice_index (net_numbers items) place ∷ [])) ∙ sym (ap (map (name_at names)) more)
