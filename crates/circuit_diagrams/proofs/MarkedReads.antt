-- In an evaluation order a marked node reads inputs and the nets of marked nodes before it, where the marks are those of a cone; and the nets that the cone is of are inputs or
-- driven by marked nodes.
use Rattle.std.proofs.Common.{◌≡◌, ℕ, suc, ◌+◌, ◌-◌, ◌<◌, ◌⊎◌, inl, inr, Bool, not, cond, IsTrue, List, [], ◌∷◌, length, slice_index, slice_index_or, map, All, Contains, sym, ap, ◌∙◌, subst, arith}
use Rattle.std.proofs.lemmas.Bool.{cases_lt, cases_eq}
use Rattle.std.proofs.lemmas.Grind.{common_steps}
use Rattle.std.proofs.lemmas.List.{length-map, get_or-map}
use Rattle.std.proofs.lemmas.List.Elements.{Contains-get_or}
use Rattle.std.proofs.Math.Logic.{⊎_elim}
use Rattle.fault_secure.specs.Circuit.{Circuit, node, node_net, pin_net, nets, no_node, bit}
use Rattle.fault_secure.specs.Closed.{IsClosed}
use Rattle.fault_secure.specs.Depends.Depends.{itself}
use Rattle.fault_secure.proofs.DependsLemmas.{feeds}
use Rattle.tsc_net.specs.Order.{fan_in, fan_ins, evaluation_order, place_in, IsOrder}
use Rattle.tsc_net.proofs.OrderLists.{fan_in_has}
use Rattle.net_cones.specs.Cones.{MarksCone}
use Rattle.net_cones.proofs.ConeLoop.{same_false, same_true}
use Rattle.net_cones.proofs.OrderWithin.{order_within}
use Rattle.diagrams.specs.Building.{DiagramState, StandsFor}
use Rattle.cover_diagrams.specs.Covering.{StandForPins}
use Rattle.circuit_diagrams.specs.Stated.{net_function}
use Rattle.circuit_diagrams.specs.NetRows.{NetsStand, ReadsMarked}
use Rattle.circuit_diagrams.proofs.NetWalk.{nets_stand}

-- an item that has a place stands there
there_is : (x : ℕ) (xs : List ℕ) → place_in xs x < length xs → slice_index xs (place_in xs x) ≡ x
there_is x [] within = absurd (omega arith)
there_is x (y ∷ xs) within = elim (cases_eq y x) [
  | inl same ↦ (
      let here : place_in (y ∷ xs) x ≡ 0 = ap (λ b. cond (not b) (1 + place_in xs x) 0) (same_true x y same) in
      ap (slice_index (y ∷ xs)) here ∙ same)
  | inr other ↦ (
      let here : place_in (y ∷ xs) x ≡ 1 + place_in xs x = ap (λ b. cond (not b) (1 + place_in xs x) 0) (same_false x y other) in
      let next : place_in (y ∷ xs) x ≡ suc (place_in xs x) = omega arith in
      ap (slice_index (y ∷ xs)) next ∙ there_is x xs (omega arith))
]

module _ (N : Circuit) (roots order : List ℕ) (marks : List Bool) (latches : length N.latches ≡ 0) (cone : MarksCone N roots marks)
    (whole : IsOrder (fan_ins N) order) (is : order ≡ evaluation_order (fan_ins N)) where
  count : length (fan_ins N) ≡ length N.nodes
  count = length-map N.nodes (λ n. fan_in (N.inputs + length N.latches) n.reads)

  -- each node stands in the order
  placed : (q : ℕ) → q < length N.nodes → place_in order q < length order
  placed q there = let c = count in whole.each q (omega arith)

  stands_there : (q : ℕ) → q < length N.nodes → slice_index order (place_in order q) ≡ q
  stands_there q there = there_is q order (placed q there)

  marked_there : (q : ℕ) → q < length N.nodes → IsTrue (bit marks q) → IsTrue (bit marks (slice_index order (place_in order q)))
  marked_there q there marked = subst (λ (j : ℕ). IsTrue (bit marks j)) (sym (stands_there q there)) marked

  reads_pin : (j pin q : ℕ) → pin < length (node N j).reads → pin_net N j pin ≡ node_net N q → Contains (node N j).reads (N.inputs + length N.latches + q)
  reads_pin j pin q has e = (pin, has, found (node N j).reads pin has e)
    where
      found : (xs : List ℕ) (pin : ℕ) → pin < length xs → slice_index xs pin ≡ N.inputs + length N.latches + q → slice_index_or xs pin (N.inputs + length N.latches + q) ≡ N.inputs + length N.latches + q
      found xs pin has e = grind (arith, common_steps)

  before : (k pin q : ℕ) → k < length order → pin < length (node N (slice_index order k)).reads → q < length N.nodes → pin_net N (slice_index order k) pin ≡ node_net N q → place_in order q < k
  before k pin q inside has there e =
      let c = count in
      let j = slice_index order k in
      let j_there : j < length N.nodes = order_within N order is k inside in
      let fan : slice_index_or (fan_ins N) j [] ≡ fan_in (N.inputs + length N.latches) (node N j).reads = get_or-map (λ n. fan_in (N.inputs + length N.latches) n.reads) N.nodes j no_node [] j_there in
      let fed = subst (λ xs. Contains xs q) (sym fan) (fan_in_has (N.inputs + length N.latches) (node N j).reads q (reads_pin j pin q has e)) in
      let low : place_in order q < place_in order j = whole.after j q (omega arith) fed in
      let here : place_in order j ≡ k = whole.once k inside in
      omega arith

  net_cases : (net : ℕ) → net < nets N → (net < N.inputs) ⊎ ((q : ℕ) × (q < length N.nodes) × (net ≡ node_net N q))
  net_cases net inside = ⊎_elim (λ low. inl low) (λ high. inr (net - N.inputs, omega arith, omega arith)) (cases_lt net N.inputs)

  pub marked_reads : IsClosed N → ReadsMarked N marks order
  marked_reads closed = record { reads = reads }
    where
      reads : (k pin : ℕ) → k < length order → IsTrue (bit marks (slice_index order k)) → pin < length (node N (slice_index order k)).reads
          → (pin_net N (slice_index order k) pin < N.inputs) ⊎ ((m : ℕ) × (m < k) × IsTrue (bit marks (slice_index order m)) × (pin_net N (slice_index order k) pin ≡ node_net N (slice_index order m)))
      reads k pin inside marked has =
          let j = slice_index order k in
          let j_there : j < length N.nodes = order_within N order is k inside in
          let some = (cone.exact j j_there).0 marked in
          ⊎_elim
          (λ input. inl input)
          (λ (q, there, e). (
          let q_marked = (cone.exact q there).1 (record { root = some.root; is_root = some.is_root; depends = feeds N q j pin some.root there e has some.depends }) in
          inr (place_in order q, before k pin q inside has there e, marked_there q there q_marked, e ∙ ap (node_net N) (sym (stands_there q there)))))
          (net_cases (pin_net N j pin) (closed.pins j pin j_there has))

  -- the nets that the cone is of have their rows after the walk
  pub root_stands : (state : DiagramState) (v : List Bool → List Bool) (rows : List ℕ) (net : ℕ) → Contains roots net → net < nets N → NetsStand state N v marks order (length order) rows →
      StandsFor state (net_function v net) (slice_index rows net)
  root_stands state v rows net is_root inside stand = ⊎_elim
      (λ input. stand.inputs net input)
      (λ (q, there, e). (
      let marked = (cone.exact q there).1 (record { root = net; is_root = is_root; depends = itself net there e }) in
      subst (λ (n : ℕ). StandsFor state (net_function v n) (slice_index rows n)) (sym (e ∙ ap (node_net N) (sym (stands_there q there))))
      (stand.nodes (place_in order q) (placed q there) (marked_there q there marked))))
      (net_cases net inside)

  pub roots_stand : (state : DiagramState) (v : List Bool → List Bool) (rows found : List ℕ) → found ≡ map (slice_index rows) roots → All (λ root. root < nets N) roots → NetsStand state N v marks order (length order) rows →
      StandForPins state (map (net_function v) roots) found
  roots_stand state v rows found same inside stand =
      nets_stand state v rows roots found same (λ k there. root_stands state v rows (slice_index roots k) (Contains-get_or roots k 0 there) (inside k 0 there) stand)

pub order_all : (N : Circuit) (order : List ℕ) → order ≡ evaluation_order (fan_ins N) → All (λ place. place < length N.nodes) order
order_all N order is k d inside =
    let low : slice_index order k < length N.nodes = order_within N order is k inside in
    let e : slice_index_or order k d ≡ slice_index order k = default order k d inside in
    omega arith
  where
    default : (xs : List ℕ) (k d : ℕ) → k < length xs → slice_index_or xs k d ≡ slice_index xs k
    default xs k d inside = grind (arith, common_steps)
