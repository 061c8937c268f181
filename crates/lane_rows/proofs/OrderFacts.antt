-- What a whole order of a circuit's nodes says of places and nets.
use Rattle.std.proofs.Common.{◌≡◌, ℕ, ◌+◌, ◌<◌, ◌==◌, List, length, slice_index, slice_index_or, All, sym, ap, ◌∙◌, arith}
use Rattle.std.proofs.lemmas.Bool.{eqb-true}
use Rattle.std.proofs.lemmas.List.{length-map, get_or-map}
use Rattle.std.proofs.lemmas.List.Sums.{passes_at_first}
use Rattle.fault_secure.specs.Circuit.{Circuit, NodeOf, node, nets}
use Rattle.fault_secure.specs.Closed.{IsClosed}
use Rattle.tsc_net.specs.Order.{fan_in, fan_ins, place_in, IsOrder}
use Rattle.tsc_net.specs.PlanView.{net_numbers}
use Rattle.tsc_net.specs.declared.ids.NetId.{NetId}
use Rattle.lane_rows.specs.Alive.{net_at}

-- what a node reads are nets
pub reads_within : (C : Circuit) → IsClosed C → (j : ℕ) → j < length C.nodes → (reads : List NetId) → net_numbers reads ≡ (node C j).reads
    → All (λ (net : NetId). net.number < nets C) reads
reads_within C closed j hj reads same k d hk =
    let sized : length (net_numbers reads) ≡ length reads = length-map reads (λ (net : NetId). net.number) in
    let sized' : length (net_numbers reads) ≡ length (node C j).reads = ap length same in
    let pin : slice_index (node C j).reads k < nets C = closed.pins j k hj (omega (arith, sized, sized')) in
    let is : slice_index (net_numbers reads) k ≡ (slice_index_or reads k d).number = get_or-map (λ (net : NetId). net.number) reads k d 0 hk in
    let is' : slice_index (net_numbers reads) k ≡ slice_index (node C j).reads k = ap (λ l. slice_index l k) same in
    omega (arith, pin, is, is')

module _ (C : Circuit) (order : List ℕ) (whole : IsOrder (fan_ins C) order) where
  -- there are as many fan-ins as nodes
  pub fans_sized : length (fan_ins C) ≡ length C.nodes
  fans_sized = length-map C.nodes (λ (n : NodeOf). fan_in (C.inputs + length C.latches) n.reads)

  -- the order has as many places as there are nodes
  pub order_sized : length order ≡ length C.nodes
  order_sized = whole.sized ∙ fans_sized

  -- what stands at a place of the order is a node
  pub node_within : (place : ℕ) → place < length order → slice_index order place < length C.nodes
  node_within place h =
      let within : slice_index order place < length (fan_ins C) = whole.within place 0 h in
      omega (arith, within, fans_sized)

  pub net_within : (place : ℕ) → place < length order → net_at C order place < nets C
  net_within place h = let within = node_within place h in omega (arith, within)

  -- the place of the node that stands at a place is this place
  pub place_of_node : (place : ℕ) → place < length order → place_in order (slice_index order place) ≡ place
  place_of_node place h = whole.once place h

  -- each node has a place in the order
  pub node_placed : (j : ℕ) → j < length C.nodes → place_in order j < length order
  node_placed j h = whole.each j (omega (arith, fans_sized))

  -- at the place of a node stands this node
  pub node_at_place : (j : ℕ) → j < length C.nodes → slice_index order (place_in order j) ≡ j
  node_at_place j h =
      eqb-true (slice_index order (place_in order j)) j (passes_at_first (λ k. k == j) order 0 (node_placed j h))

  -- nodes at different places drive different nets
  pub same_place : (place other : ℕ) → place < length order → other < length order → net_at C order place ≡ net_at C order other → place ≡ other
  same_place place other h g e =
      let same : slice_index order place ≡ slice_index order other = omega (arith, e) in
      sym (place_of_node place h) ∙ ap (place_in order) same ∙ place_of_node other g
