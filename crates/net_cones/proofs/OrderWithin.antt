-- The places of an evaluation order are places of nodes, and what nodes read are nets.
use Rattle.std.proofs.Common.{◌≡◌, ℕ, zero, suc, ◌+◌, ◌<◌, Bool, true, false, not, ◌&&◌, if◌then◌else◌, List, [], ◌∷◌, ◌++◌, length, slice_index, slice_index_or, All, Option, Some, None, refl, sym, ap, subst, arith}
use Rattle.std.specs.List.{list_all}
use Rattle.std.proofs.lemmas.List.{length-map, get_or-map}
use Rattle.std.proofs.lemmas.List.Elements.{All-nil, All-push, All-get_or}
use Rattle.fault_secure.specs.Circuit.{Circuit, node, pin_net, nets}
use Rattle.tsc_net.specs.Order.{has_place, next_from, next_node, order_from, evaluation_order, fan_in, fan_ins}
use Rattle.fault_secure.specs.Closed.{IsClosed}
use Rattle.tsc_net.specs.PlanView.{net_numbers}
use Rattle.tsc_net.specs.declared.ids.NetId.{NetId}

next_from-within : (listed : List ℕ) (at : ℕ) (fans : List (List ℕ)) (j : ℕ) → next_from listed at fans ≡ Some j → j < at + length fans
next_from-within listed at [] j is = cc
next_from-within listed at (reads ∷ fans) j is =
    choose (not (has_place listed at) && list_all (has_place listed) reads) (next_from-within listed (at + 1) fans j) is
  where
    some_same : (a b : ℕ) → Some a ≡ Some b → a ≡ b
    some_same a b e = cc

    choose : (b : Bool) → (next_from listed (at + 1) fans ≡ Some j → j < at + 1 + length fans)
        → (if b then Some at else next_from listed (at + 1) fans) ≡ Some j → j < at + length (reads ∷ fans)
    choose true deeper is = let e : at ≡ j = some_same at j is in omega arith
    choose false deeper is = let d : j < at + 1 + length fans = deeper is in omega arith

order_from-within : (most : ℕ) (fans : List (List ℕ)) (listed : List ℕ) → All (λ j. j < length fans) listed → All (λ j. j < length fans) (order_from most fans listed)
order_from-within zero fans listed all = all
order_from-within (suc most) fans listed all = choose (next_node fans listed) refl (λ listed. order_from-within most fans listed)
  where
    choose : (o : Option ℕ) → next_node fans listed ≡ o → ((listed : List ℕ) → All (λ j. j < length fans) listed → All (λ j. j < length fans) (order_from most fans listed))
        → All (λ j. j < length fans) (elim o [ None ↦ listed | Some j ↦ order_from most fans (listed ++ j ∷ []) ])
    choose None is deeper = all
    choose (Some j) is deeper =
        let b : j < 0 + length fans = next_from-within listed 0 fans j is in
        deeper (listed ++ j ∷ []) (All-push (λ j. j < length fans) listed j all (omega arith))

-- each place of an evaluation order is a place of a node
pub order_within : (C : Circuit) (order : List ℕ) → order ≡ evaluation_order (fan_ins C) → (i : ℕ) → i < length order → slice_index order i < length C.nodes
order_within C order is i within =
    let all : All (λ j. j < length (fan_ins C)) (evaluation_order (fan_ins C)) = order_from-within (length (fan_ins C)) (fan_ins C) [] (All-nil (λ j. j < length (fan_ins C))) in
    let here : All (λ j. j < length (fan_ins C)) order = subst (λ o. All (λ j. j < length (fan_ins C)) o) (sym is) all in
    let low : slice_index order i < length (fan_ins C) = All-get_or (λ j. j < length (fan_ins C)) order i 0 within here in
    let count : length (fan_ins C) ≡ length C.nodes = length-map C.nodes (λ n. fan_in (C.inputs + length C.latches) n.reads) in
    omega arith

-- what a node of a closed circuit reads are nets
pub reads_within : (C : Circuit) (j : ℕ) (reads : List NetId) → IsClosed C → j < length C.nodes → net_numbers reads ≡ (node C j).reads
    → (k : ℕ) (d : NetId) → k < length reads → (slice_index_or reads k d).number < nets C
reads_within C j reads closed there is k d within =
    let e : slice_index (net_numbers reads) k ≡ (slice_index_or reads k d).number = get_or-map (λ net. net.number) reads k d 0 within in
    let f : slice_index (net_numbers reads) k ≡ pin_net C j k = ap (λ xs. slice_index xs k) is in
    let count : length (net_numbers reads) ≡ length reads = length-map reads (λ net. net.number) in
    let same : length (net_numbers reads) ≡ length (node C j).reads = ap length is in
    let b : pin_net C j k < nets C = closed.pins j k there (omega arith) in
    omega arith
