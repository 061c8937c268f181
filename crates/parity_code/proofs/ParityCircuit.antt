-- The nodes of a parity netlist stand as its structure asks.
use Rattle.std.proofs.Common.{◌≡◌, ℕ, zero, suc, ◌+◌, ◌-◌, ◌<◌, ◌≤◌, ◌==◌, if◌then◌else◌, ◌⊎◌, inl, inr, false, List, [], ◌∷◌, ◌++◌, map, length, slice_index, slice_index_or, Contains, refl, sym, ◌∙◌, ap, subst, arith, length-append}
use Rattle.std.proofs.lemmas.Bool.{cases_lt}
use Rattle.std.proofs.lemmas.Grind.{common_steps}
use Rattle.std.proofs.lemmas.List.{length-map, get_or-map, get_or_append_left, get_or-append-add}
use Rattle.tsc_cover.specs.Gates.{not_cover, xor_cover}
use Rattle.fault_secure.specs.Circuit.{Circuit, NodeOf, node, node_net, pin_net, nets, gate, no_node}
use Rattle.fault_secure.specs.Depends.{Depends}
use Rattle.fault_secure.specs.Depends.Depends.{itself}
use Rattle.fault_secure.proofs.DependsLemmas.{feeds}
use Rattle.parity_code.specs.Copy.{IsCopied, IsCopy, renamed}
use Rattle.parity_code.specs.Chain.{IsChain}
use Rattle.parity_code.specs.ParityFunction.{outputs_at}
use Rattle.net_cones.specs.Cones.{IsCone}
use Rattle.parity_code.specs.ParityCircuit.{place_in, copy_net, copied_nodes, chain_nodes, chain_end, parity_nodes, predictor_nodes, StandAt}

-- stretches of nodes that stand one after another
pub stand_left : (N : Circuit) (base : ℕ) (xs ys : List NodeOf) → StandAt N base (xs ++ ys) → StandAt N base xs
stand_left N base xs ys stand =
    let count : length (xs ++ ys) ≡ length xs + length ys = length-append xs ys in
    let room : base + length (xs ++ ys) ≤ length N.nodes = stand.fits in
    record { fits = omega arith; each = λ k within. stand.each k (omega arith) ∙ get_or_append_left xs ys no_node k within }

pub stand_right : (N : Circuit) (base : ℕ) (xs ys : List NodeOf) → StandAt N base (xs ++ ys) → StandAt N (base + length xs) ys
stand_right N base xs ys stand =
    let count : length (xs ++ ys) ≡ length xs + length ys = length-append xs ys in
    let room : base + length (xs ++ ys) ≤ length N.nodes = stand.fits in
    record {
      fits = omega arith;
      each = λ k within.
          let e : base + length xs + k ≡ base + (length xs + k) = omega arith in
          ap (node N) e ∙ stand.each (length xs + k) (omega arith) ∙ get_or-append-add xs ys k no_node;
    }

-- the place of the item at k of a rising list is k
pub place_in-rising : (places : List ℕ) → ((i k : ℕ) → i < k → k < length places → slice_index places i < slice_index places k)
    → (k : ℕ) → k < length places → place_in places (slice_index places k) ≡ k
place_in-rising [] rising k within = absurd (omega arith)
place_in-rising (p ∷ places) rising zero within = grind (arith, common_steps)
place_in-rising (p ∷ places) rising (suc k) within =
    let less : p < slice_index places k = rising 0 (suc k) (omega arith) within in
    let rest : place_in places (slice_index places k) ≡ k = place_in-rising places (λ i j low high. rising (suc i) (suc j) (omega arith) (omega arith)) k (omega arith) in
    let test : (p == slice_index places k) ≡ false = grind (arith, common_steps) in
    ap (λ b. if b then 0 else suc (place_in places (slice_index places k))) test ∙ ap suc rest

-- in a copy an input stands for itself
pub copy_net-input : (C : Circuit) (places : List ℕ) (base n : ℕ) → n < C.inputs → copy_net C places base n ≡ n
copy_net-input C places base n input = grind (arith, common_steps)

-- in a copy from place base on, a node's net is that of its place among the copied nodes
pub copy_net-node : (C : Circuit) (places : List ℕ) (base n : ℕ) → C.inputs ≤ n → copy_net C places base n ≡ C.inputs + (base + place_in places (n - C.inputs))
copy_net-node C places base n over = grind (arith, common_steps)

-- the nets that a copy of a cone has: what its nodes read, and its roots
module _ (C : Circuit) (none : length C.latches ≡ 0)
    (closed : (j pin : ℕ) → j < length C.nodes → pin < length (node C j).reads → pin_net C j pin < nets C)
    (roots places : List ℕ) (cone : IsCone C roots places) where
  -- a net of C that depends on a node of the cone, or is an input, is copied
  is_copied : (n q : ℕ) → n < nets C → Contains places q ⊎ (n < C.inputs) → (C.inputs ≤ n → n ≡ node_net C q) → IsCopied C places n
  is_copied n q there (inr input) is = inl input
  is_copied n q there (inl contains) is =
      elim (cases_lt n C.inputs) [
        | inl input ↦ inl input
        | inr over ↦ (
            let at : slice_index places contains.0 ≡ q = slice_is contains.0 contains.1 contains.2 in
            inr (contains.0, contains.1, is over ∙ ap (node_net C) (sym at)))
      ]
    where
      slice_is : (k : ℕ) → k < length places → slice_index_or places k q ≡ q → slice_index places k ≡ q
      slice_is k within e = grind (arith, common_steps)

  pub pins_copied : (k pin : ℕ) → k < length places → pin < length (node C (slice_index places k)).reads → IsCopied C places (pin_net C (slice_index places k) pin)
  pins_copied k pin within has =
      let place : ℕ = slice_index places k in
      let there : pin_net C (slice_index places k) pin < nets C = closed (slice_index places k) pin (cone.within k within) has in
      let q : ℕ = pin_net C (slice_index places k) pin - C.inputs in
      elim (cases_lt (pin_net C (slice_index places k) pin) C.inputs) [
        | inl input ↦ inl input
        | inr over ↦ (
            let root : (net : ℕ) × Contains roots net × Depends C (slice_index places k) net = cone.sound k within in
            let is : pin_net C (slice_index places k) pin ≡ node_net C (pin_net C (slice_index places k) pin - C.inputs) = omega arith in
            let depends : Depends C (pin_net C (slice_index places k) pin - C.inputs) root.0
            = feeds C (pin_net C (slice_index places k) pin - C.inputs) (slice_index places k) pin root.0 (omega arith) is has root.2 in
            is_copied (pin_net C (slice_index places k) pin) (pin_net C (slice_index places k) pin - C.inputs) there
            (inl (cone.whole (pin_net C (slice_index places k) pin - C.inputs) root.0 root.1 depends)) (λ o. is))
      ]

  -- a root of the cone is copied
  pub root_copied : (n : ℕ) → n < nets C → Contains roots n → IsCopied C places n
  root_copied n there root =
      elim (cases_lt n C.inputs) [
        | inl input ↦ inl input
        | inr over ↦ (
            let is : n ≡ node_net C (n - C.inputs) = omega arith in
            is_copied n (n - C.inputs) there (inl (cone.whole (n - C.inputs) n root (itself n (omega arith) is))) (λ o. is))
      ]

module _ (C N : Circuit) (latchless : (length C.latches ≡ 0) × (length N.latches ≡ 0)) (same_inputs : N.inputs ≡ C.inputs)
    (closed : (j pin : ℕ) → j < length C.nodes → pin < length (node C j).reads → pin_net C j pin < nets C) where
  net_in : (j : ℕ) → node_net N j ≡ C.inputs + j
  net_in j = let e : length N.latches ≡ 0 = latchless.1 in omega arith

  module _ (roots places : List ℕ) (base : ℕ) (cone : IsCone C roots places) (stand : StandAt N base (copied_nodes C places base)) where
    copied_count : length (copied_nodes C places base) ≡ length places
    copied_count = length-map places (λ place. renamed (copy_net C places base) (node C place))

    -- where the copied nodes of a cone stand from place base on, they are a copy of it
    pub cone_copy : IsCopy C N places base (copy_net C places base)
    cone_copy = record {
      latchless = latchless;
      same_inputs = same_inputs;
      fits = (let e : length (copied_nodes C places base) ≡ length places = copied_count in
          let f : base + length (copied_nodes C places base) ≤ length N.nodes = stand.fits in omega arith);
      within = cone.within;
      inputs = copy_net-input C places base;
      nets = λ k within. net_at k within;
      nodes = λ k within. node_at k within;
      closed = pins_copied C latchless.0 closed roots places cone;
    }
      where
        net_at : (k : ℕ) → k < length places → copy_net C places base (node_net C (slice_index places k)) ≡ node_net N (base + k)
        net_at k within =
            let none : length C.latches ≡ 0 = latchless.0 in
            let over : C.inputs ≤ node_net C (slice_index places k) = omega arith in
            let back : node_net C (slice_index places k) - C.inputs ≡ slice_index places k = omega arith in
            copy_net-node C places base (node_net C (slice_index places k)) over
            ∙ ap (λ p. C.inputs + (base + place_in places p)) back
            ∙ ap (λ i. C.inputs + (base + i)) (place_in-rising places cone.rising k within) ∙ sym (net_in (base + k))

        node_at : (k : ℕ) → k < length places → node N (base + k) ≡ renamed (copy_net C places base) (node C (slice_index places k))
        node_at k within =
            let e : length (copied_nodes C places base) ≡ length places = copied_count in
            stand.each k (omega arith) ∙ get_or-map (λ place. renamed (copy_net C places base) (node C place)) places k 0 no_node within

pub length-chain_nodes : (inputs from made : ℕ) (ns : List ℕ) → length (chain_nodes inputs from made ns) ≡ length ns
length-chain_nodes inputs from made [] = refl
length-chain_nodes inputs from made (n ∷ ns) = ap suc (length-chain_nodes inputs (suc from) (inputs + from) ns)

-- a written chain is a chain
pub chain_stands : (N : Circuit) (inputs : ℕ) → ((j : ℕ) → node_net N j ≡ inputs + j) → (from made : ℕ) (ns : List ℕ)
    → StandAt N from (chain_nodes inputs from made ns) → IsChain N from made ns (chain_end inputs from made ns)
chain_stands N inputs nets from made [] stand = refl
chain_stands N inputs nets from made (n ∷ ns) stand =
    let e : from ≡ from + 0 = omega arith in
    let f : from + 1 ≡ suc from = omega arith in
    let here : node N from ≡ gate xor_cover (made ∷ (n ∷ [])) = ap (node N) e ∙ stand.each 0 (omega arith) in
    let behind : StandAt N (suc from) (chain_nodes inputs (suc from) (inputs + from) ns)
    = subst (λ at. StandAt N at (chain_nodes inputs (suc from) (inputs + from) ns)) f
    (stand_right N from (gate xor_cover (made ∷ (n ∷ [])) ∷ []) (chain_nodes inputs (suc from) (inputs + from) ns) stand) in
    let rest : IsChain N (suc from) (inputs + from) ns (chain_end inputs (suc from) (inputs + from) ns) = chain_stands N inputs nets (suc from) (inputs + from) ns behind in
    (here, subst (λ made. IsChain N (suc from) made ns (chain_end inputs (suc from) (inputs + from) ns)) (sym (nets from)) rest)

-- the predictor of a group that isn't empty has one node for each node of the cone and for each output
pub length-predictor_nodes : (C : Circuit) (cone group : List ℕ) (base : ℕ) → 0 < length group → length (predictor_nodes C cone group base) ≡ length cone + length group
length-predictor_nodes C cone [] base filled = absurd (omega arith)
length-predictor_nodes C cone (p ∷ ps) base filled =
    let net : ℕ → ℕ = copy_net C cone base in
    let chain : List NodeOf = chain_nodes C.inputs (base + length cone) (copy_net C cone base (slice_index C.outputs p)) (map (copy_net C cone base) (outputs_at C ps)) in
    let one : length (predictor_nodes C cone (p ∷ ps) base) ≡ length (copied_nodes C cone base) + length (parity_nodes C.inputs (base + length cone) (map (copy_net C cone base) (outputs_at C (p ∷ ps))))
    = length-append (copied_nodes C cone base) (parity_nodes C.inputs (base + length cone) (map (copy_net C cone base) (outputs_at C (p ∷ ps)))) in
    let two : length (copied_nodes C cone base) ≡ length cone = length-map cone (λ place. renamed (copy_net C cone base) (node C place)) in
    let three : length (parity_nodes C.inputs (base + length cone) (map (copy_net C cone base) (outputs_at C (p ∷ ps))))
    ≡ length (chain_nodes C.inputs (base + length cone) (copy_net C cone base (slice_index C.outputs p)) (map (copy_net C cone base) (outputs_at C ps))) + 1
    = length-append (chain_nodes C.inputs (base + length cone) (copy_net C cone base (slice_index C.outputs p)) (map (copy_net C cone base) (outputs_at C ps)))
    (gate not_cover (chain_end C.inputs (base + length cone) (copy_net C cone base (slice_index C.outputs p)) (map (copy_net C cone base) (outputs_at C ps)) ∷ []) ∷ []) in
    let four : length (chain_nodes C.inputs (base + length cone) (copy_net C cone base (slice_index C.outputs p)) (map (copy_net C cone base) (outputs_at C ps))) ≡ length (map (copy_net C cone base) (outputs_at C ps))
    = length-chain_nodes C.inputs (base + length cone) (copy_net C cone base (slice_index C.outputs p)) (map (copy_net C cone base) (outputs_at C ps)) in
    let five : length (map (copy_net C cone base) (outputs_at C ps)) ≡ length (outputs_at C ps) = length-map (outputs_at C ps) (copy_net C cone base) in
    let six : length (outputs_at C ps) ≡ length ps = length-map ps (slice_index C.outputs) in
    omega arith
