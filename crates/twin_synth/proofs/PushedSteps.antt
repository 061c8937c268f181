-- Steps of pushing to a netlist by numbers.
use Rattle.std.proofs.Common.{◌≡◌, ℕ, suc, ◌+◌, ◌<◌, false, List, [], ◌∷◌, ◌++◌, map, take, length, slice_index, All, refl, sym, ◌∙◌, ap, ap₂, arith, append_assoc}
use Rattle.std.proofs.lemmas.List.{length-map, get_or-map, take_more}
use Rattle.std.proofs.lemmas.List.FromFn.{map-range_with_len_more}
use Rattle.std.proofs.lemmas.List.Elements.{All-from_get_or}
use Rattle.fault_secure.specs.Circuit.{Circuit, node, nets}
use Rattle.fault_secure.specs.Closed.{IsClosed}
use Rattle.tsc_net.specs.Names.{text_at}
use Rattle.tsc_net.specs.Parts.{fresh_text, is_taken, free_number_from}
use Rattle.tsc_net.specs.NetlistOf.{NetlistOf}
use Rattle.tsc_net.specs.PlanView.{net_numbers}
use Rattle.tsc_net.specs.declared.ids.NetId.{NetId}
use Rattle.twin_synth.specs.Numbered.{more_names}
use Rattle.twin_synth.specs.Pushed.{fresh_from}

-- one name more
pub first_names_more : (S N M P : NetlistOf) (i : ℕ) → i < length S.names → M ≡ more_names N (take i S.names) → P ≡ more_names M (text_at S.names i ∷ []) → P ≡ more_names N (take (i + 1) S.names)
first_names_more S N M P i low before is =
    is ∙ ap (λ (K : NetlistOf). more_names K (text_at S.names i ∷ [])) before
    ∙ ap (λ (names : List (List ℕ)). let K : NetlistOf = record N { names = names } in K)
    (append_assoc N.names (take i S.names) (text_at S.names i ∷ []) ∙ ap (λ (names : List (List ℕ)). N.names ++ names) (sym (take_more S.names i [] low)))

-- what a node of a closed circuit reads are nets of it
pub reads_within : (C : Circuit) (j count : ℕ) (reads : List NetId) → IsClosed C → j < length C.nodes → count ≡ nets C → net_numbers reads ≡ (node C j).reads
    → All (λ (net : NetId). net.number < count) reads
reads_within C j count reads closed low sized are =
    All-from_get_or (λ (net : NetId). net.number < count) reads none (λ pin inside. (
    let long : length (net_numbers reads) ≡ length reads = length-map reads (λ (net : NetId). net.number) in
    let here : pin < length (node C j).reads = omega (arith, inside, long, ap length are) in
    let is = get_or-map (λ (net : NetId). net.number) reads pin none 0 inside in
    let same : slice_index (net_numbers reads) pin ≡ slice_index (node C j).reads pin = ap (λ (list : List ℕ). slice_index list pin) are in
    omega (arith, closed.pins j pin low here, is, same)))
  where
    none : NetId
    none = record { number = 0 }

-- the outputs of a closed circuit are nets of it
pub outputs_within : (C : Circuit) (count : ℕ) (outputs : List NetId) → IsClosed C → count ≡ nets C → net_numbers outputs ≡ C.outputs → All (λ (net : NetId). net.number < count) outputs
outputs_within C count outputs closed sized are =
    All-from_get_or (λ (net : NetId). net.number < count) outputs none (λ place inside. (
    let long : length (net_numbers outputs) ≡ length outputs = length-map outputs (λ (net : NetId). net.number) in
    let here : place < length C.outputs = omega (arith, inside, long, ap length are) in
    let is = get_or-map (λ (net : NetId). net.number) outputs place none 0 inside in
    let same : slice_index (net_numbers outputs) place ≡ slice_index C.outputs place = ap (λ (list : List ℕ). slice_index list place) are in
    omega (arith, closed.outputs place 0 here, is, same)))
  where
    none : NetId
    none = record { number = 0 }

-- one fresh name more
pub fresh_names_more : (N M P : NetlistOf) (name : List ℕ) (number first i : ℕ) → M ≡ more_names N (fresh_from number first i) → name ≡ fresh_text number (first + i) → P ≡ more_names M (name ∷ [])
    → P ≡ more_names N (fresh_from number first (i + 1))
fresh_names_more N M P name number first i before named is =
    is ∙ ap₂ (λ (K : NetlistOf) (text : List ℕ). more_names K (text ∷ [])) before named
    ∙ ap (λ (names : List (List ℕ)). let K : NetlistOf = record N { names = names } in K)
    (append_assoc N.names (fresh_from number first i) (fresh_text number (first + i) ∷ [])
    ∙ ap (λ (names : List (List ℕ)). N.names ++ names) (sym (map-range_with_len_more (fresh_text number) first i (first + i) refl)))

-- a number that isn't taken is the first free one
pub free_here : (names : List (List ℕ)) (most rest number : ℕ) → most ≡ suc rest → is_taken names number ≡ false → free_number_from names most number ≡ number
free_here names most rest number e free = rw (e, free)
