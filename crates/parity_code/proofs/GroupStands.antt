-- Checks of groups that stand in a circuit: what their nodes read, and what their values are.
use Rattle.std.proofs.Common.{◌≡◌, ℕ, zero, suc, ◌+◌, ◌-◌, ◌<◌, ◌≤◌, ◌⊎◌, inl, inr, Bool, not, List, [], ◌∷◌, ◌++◌, map, length, slice_index, slice_index_or, All, refl, sym, ◌∙◌, ap, subst, arith, length-append}
use Rattle.std.proofs.lemmas.Bool.{cases_lt}
use Rattle.std.proofs.lemmas.List.{length-map}
use Rattle.std.proofs.lemmas.List.Elements.{All-head, All-tail}
use Rattle.tsc_cover.specs.Cover.{truth}
use Rattle.tsc_cover.specs.Gates.{not_cover}
use Rattle.tsc_bits.specs.Counting.{odd}
use Rattle.fault_secure.specs.Circuit.{Circuit, NodeOf, node, node_net, pin_net, gate, bit}
use Rattle.fault_secure.specs.CodePlan.{concat_places}
use Rattle.fault_secure.specs.Segment.{IsNetBetween}
use Rattle.fault_secure.specs.Settle.{node_value}
use Rattle.fault_secure.specs.Stretch.{StretchSettles}
use Rattle.fault_secure.specs.StuckAt.{NoFault}
use Rattle.fault_secure.proofs.GateLemmas.{node_value-gate, truth-not}
use Rattle.parity_code.specs.Chain.{IsChain}
use Rattle.parity_code.specs.ParityFunction.{outputs_at}
use Rattle.parity_code.specs.ParityCircuit.{chain_nodes, chain_end, parity_nodes, StandAt}
use Rattle.parity_code.proofs.ParityCircuit.{stand_left, stand_right, chain_stands, length-chain_nodes}
use Rattle.parity_code.proofs.ChainLemmas.{chain_value, chain_reads, chain_last}
use Rattle.parity_code.specs.GroupChecks.{group_checks, group_check_nets}

-- from place `from` on N has a chain over some nets, and its negation
pub record IsCheck (N : Circuit) (from first : ℕ) (rest : List ℕ) : Type 0 where
  pub last : ℕ
  pub chained : IsChain N from first rest last
  pub inverts : node N (from + length rest) ≡ gate not_cover (last ∷ [])
  pub fits : from + length rest < length N.nodes

-- a written check is one
check_stands : (N : Circuit) (inputs : ℕ) → ((j : ℕ) → node_net N j ≡ inputs + j) → (from first : ℕ) (rest : List ℕ) → StandAt N from (parity_nodes inputs from (first ∷ rest)) → IsCheck N from first rest
check_stands N inputs nets from first rest stand =
    let end : NodeOf = gate not_cover (chain_end inputs from first rest ∷ []) in
    let negation : StandAt N (from + length rest) (gate not_cover (chain_end inputs from first rest ∷ []) ∷ [])
    = subst (λ (k : ℕ). StandAt N (from + k) (gate not_cover (chain_end inputs from first rest ∷ []) ∷ [])) (length-chain_nodes inputs from first rest)
    (stand_right N from (chain_nodes inputs from first rest) (gate not_cover (chain_end inputs from first rest ∷ []) ∷ []) stand) in
    let room : from + length rest + 1 ≤ length N.nodes = negation.fits in
    let zeroth : from + length rest ≡ from + length rest + 0 = omega arith in
    record {
      last = chain_end inputs from first rest;
      chained = chain_stands N inputs nets from first rest (stand_left N from (chain_nodes inputs from first rest) (gate not_cover (chain_end inputs from first rest ∷ []) ∷ []) stand);
      inverts = ap (node N) zeroth ∙ negation.each 0 (omega arith);
      fits = omega arith;
    }

-- a check has a node for each net
pub check_counted : (inputs from : ℕ) (list : List ℕ) → length (parity_nodes inputs from list) ≡ length list
check_counted inputs from [] = refl
check_counted inputs from (first ∷ rest) =
    omega (arith, length-append (chain_nodes inputs from first rest) (gate not_cover (chain_end inputs from first rest ∷ []) ∷ []), length-chain_nodes inputs from first rest)

-- what the stretch from `base` on may read before place h: an input, or a net of its own
abbrev pub Inside : Circuit → ℕ → ℕ → ℕ → Type 0
Inside N base h m = (m < N.inputs) ⊎ IsNetBetween N base h m

pub wider : (N : Circuit) (base h j m : ℕ) → h ≤ j → Inside N base h m → Inside N base j m
wider N base h j m up (inl input) = inl input
wider N base h j m up (inr between) = let low : node_net N base ≤ m = between.0 in let high : m < node_net N h = between.1 in inr (omega arith, omega arith)

module _ (N : Circuit) (base from first : ℕ) (rest : List ℕ) (is : IsCheck N from first rest) where
  -- its negation has the value that it foretells
  pub check_value : (u : List Bool) → StretchSettles N u from (from + length rest + 1) → bit u (node_net N (from + length rest)) ≡ not (odd (map (bit u) (first ∷ rest)))
  check_value u settles =
      let settled : bit u (node_net N (from + length rest)) ≡ node_value N NoFault u (from + length rest) = settles.nodes (from + length rest) (omega arith) (omega arith) in
      let value : node_value N NoFault u (from + length rest) ≡ truth not_cover (bit u is.last ∷ []) = node_value-gate N u (from + length rest) not_cover (is.last ∷ []) is.inverts in
      let chained : bit u is.last ≡ odd (map (bit u) (first ∷ rest)) = chain_value N u from first rest is.last is.chained (record { nodes = λ j low high. settles.nodes j (omega arith) (omega arith) }) in
      settled ∙ value ∙ truth-not (bit u is.last) ∙ ap not chained

  module _ (low : base ≤ from) (begins : Inside N base from first) (others : All (Inside N base from) rest) where
    earlier_inside : (j m : ℕ) → (i : ℕ) × (from ≤ i) × (i < j) × (m ≡ node_net N i) → Inside N base j m
    earlier_inside j m (i, above, below, e) = inr (omega arith, omega arith)

    last_inside : Inside N base (from + length rest) is.last
    last_inside = elim (chain_last (Inside N base from) N from first rest is.last is.chained begins) [
      | inl old ↦ wider N base from (from + length rest) is.last (omega arith) old
      | inr new ↦ earlier_inside (from + length rest) is.last new
    ]

    -- each of its nodes reads inputs, and nets of the stretch that stand before its own
    pub check_reads : (j pin : ℕ) → from ≤ j → j < from + length rest + 1 → pin < length (node N j).reads → Inside N base j (pin_net N j pin)
    check_reads j pin above below has = elim (cases_lt j (from + length rest)) [
      | inl chain ↦ elim (chain_reads (Inside N base from) N from first rest is.last is.chained begins others j pin above chain has) [
        | inl old ↦ wider N base from j (pin_net N j pin) above old
        | inr new ↦ earlier_inside j (pin_net N j pin) new
      ]
      | inr end ↦ (
          let at : j ≡ from + length rest = omega arith in
          let same : node N j ≡ gate not_cover (is.last ∷ []) = ap (node N) at ∙ is.inverts in
          let reads : (node N j).reads ≡ is.last ∷ [] = ap (λ (m : NodeOf). m.reads) same in
          let count : length (node N j).reads ≡ 1 = ap length reads in
          let zeroth : pin ≡ 0 = omega arith in
          let e : pin_net N j pin ≡ is.last = ap (slice_index (node N j).reads) zeroth ∙ ap (λ (list : List ℕ). slice_index list 0) reads in
          subst (λ (m : ℕ). Inside N base j m) (sym e) (subst (λ (h : ℕ). Inside N base h is.last) (sym at) last_inside))
    ]

-- there is a check for each group
pub checks_paired : (inputs : ℕ) (groups : List (List ℕ)) (from : ℕ) → length (group_check_nets inputs groups from) ≡ length groups
checks_paired inputs [] from = refl
checks_paired inputs (group ∷ groups) from = ap suc (checks_paired inputs groups (from + length group))

module _ (C N : Circuit) (net : ℕ → ℕ) (nets : (j : ℕ) → node_net N j ≡ C.inputs + j) where
  -- the checks of groups have a node for each place
  pub checks_sized : (groups : List (List ℕ)) (from : ℕ) → length (group_checks C net groups from) ≡ length (concat_places groups)
  checks_sized [] from = refl
  checks_sized (group ∷ groups) from =
      omega (
        arith,
        length-append (parity_nodes C.inputs from (map net (outputs_at C group))) (group_checks C net groups (from + length group)),
        check_counted C.inputs from (map net (outputs_at C group)),
        length-map (outputs_at C group) net,
        length-map group (slice_index C.outputs),
        checks_sized groups (from + length group),
        length-append group (concat_places groups),
      )

  -- the first check stands, and the others after it
  first_stands : (group : List ℕ) (groups : List (List ℕ)) (from : ℕ) → StandAt N from (group_checks C net (group ∷ groups) from) → StandAt N from (parity_nodes C.inputs from (map net (outputs_at C group)))
  first_stands group groups from stand = stand_left N from (parity_nodes C.inputs from (map net (outputs_at C group))) (group_checks C net groups (from + length group)) stand

  others_stand : (group : List ℕ) (groups : List (List ℕ)) (from : ℕ) → StandAt N from (group_checks C net (group ∷ groups) from) → StandAt N (from + length group) (group_checks C net groups (from + length group))
  others_stand group groups from stand =
      subst (λ (k : ℕ). StandAt N (from + k) (group_checks C net groups (from + length group)))
      (check_counted C.inputs from (map net (outputs_at C group)) ∙ length-map (outputs_at C group) net ∙ length-map group (slice_index C.outputs))
      (stand_right N from (parity_nodes C.inputs from (map net (outputs_at C group))) (group_checks C net groups (from + length group)) stand)

  -- one check
  one_check : (p : ℕ) (ps : List ℕ) (groups : List (List ℕ)) (from : ℕ) → StandAt N from (group_checks C net ((p ∷ ps) ∷ groups) from) → IsCheck N from (net (slice_index C.outputs p)) (map net (outputs_at C ps))
  one_check p ps groups from stand = check_stands N C.inputs nets from (net (slice_index C.outputs p)) (map net (outputs_at C ps)) (first_stands (p ∷ ps) groups from stand)

  -- which has a node for each place
  rest_counted : (ps : List ℕ) → length (map net (outputs_at C ps)) ≡ length ps
  rest_counted ps = length-map (outputs_at C ps) net ∙ length-map ps (slice_index C.outputs)

  -- each check is a net of the nodes of its group
  pub checks_within : (groups : List (List ℕ)) (from : ℕ) → All (λ group. 0 < length group) groups → (i : ℕ) → i < length (group_check_nets C.inputs groups from)
      → IsNetBetween N from (from + length (concat_places groups)) (slice_index (group_check_nets C.inputs groups from) i)
  checks_within [] from filled i there = absurd (omega arith)
  checks_within (group ∷ groups) from filled zero there =
      let some : 0 < length group = All-head (λ (g : List ℕ). 0 < length g) group groups filled in
      let long = length-append group (concat_places groups) in
      (omega (arith, some, nets from), omega (arith, some, long, nets (from + length (group ++ concat_places groups))))
  checks_within (group ∷ groups) from filled (suc i) there =
      let long = length-append group (concat_places groups) in
      let inner = checks_within groups (from + length group) (All-tail (λ (g : List ℕ). 0 < length g) group groups filled) i (omega arith) in
      let low = inner.0 in
      let high = inner.1 in
      (omega (arith, low), omega (arith, high, long))

  -- each node of the checks reads inputs, and nets of the stretch that stand before its own
  pub checks_read : (base lo : ℕ) → base ≤ lo → (groups : List (List ℕ)) (from : ℕ) → lo ≤ from → All (λ group. All (Inside N base lo) (map net (outputs_at C group))) groups → StandAt N from (group_checks C net groups from)
      → (j pin : ℕ) → from ≤ j → j < from + length (concat_places groups) → pin < length (node N j).reads → Inside N base j (pin_net N j pin)
  checks_read base lo low [] from up all stand j pin above below has = absurd (omega arith)
  checks_read base lo low ([] ∷ groups) from up all stand j pin above below has =
      let zeroth : from ≡ from + 0 = omega arith in
      checks_read base lo low groups from up (All-tail (λ group. All (Inside N base lo) (map net (outputs_at C group))) [] groups all)
      (subst (λ (n : ℕ). StandAt N n (group_checks C net groups n)) (sym zeroth) (others_stand [] groups from stand)) j pin above below has
  checks_read base lo low ((p ∷ ps) ∷ groups) from up all stand j pin above below has =
      let first = net (slice_index C.outputs p) in
      let mine : All (Inside N base lo) (net (slice_index C.outputs p) ∷ map net (outputs_at C ps)) = All-head (λ group. All (Inside N base lo) (map net (outputs_at C group))) (p ∷ ps) groups all in
      let long = length-append (p ∷ ps) (concat_places groups) in
      let count = rest_counted ps in
      elim (cases_lt j (from + length (p ∷ ps))) [
        | inl here ↦ check_reads N base from (net (slice_index C.outputs p)) (map net (outputs_at C ps)) (one_check p ps groups from stand) (omega arith)
            (wider N base lo from (net (slice_index C.outputs p)) up (All-head (Inside N base lo) (net (slice_index C.outputs p)) (map net (outputs_at C ps)) mine))
            (all_wider (map net (outputs_at C ps)) (All-tail (Inside N base lo) (net (slice_index C.outputs p)) (map net (outputs_at C ps)) mine)) j pin above (omega (arith, here, count)) has
        | inr later ↦ checks_read base lo low groups (from + length (p ∷ ps)) (omega arith) (All-tail (λ group. All (Inside N base lo) (map net (outputs_at C group))) (p ∷ ps) groups all) (others_stand (p ∷ ps) groups from stand) j pin
            (omega (arith, later)) (omega (arith, below, long)) has
      ]
    where
      all_wider : (list : List ℕ) → All (Inside N base lo) list → All (Inside N base from) list
      all_wider list inside k d there = wider N base lo from (slice_index_or list k d) up (inside k d there)

  -- each check has the value that it foretells
  pub checks_foretell : (u : List Bool) (groups : List (List ℕ)) (from : ℕ) → All (λ group. 0 < length group) groups → StandAt N from (group_checks C net groups from)
      → StretchSettles N u from (from + length (concat_places groups)) → (i : ℕ) → i < length groups
      → bit u (slice_index (group_check_nets C.inputs groups from) i) ≡ not (odd (map (bit u) (map net (outputs_at C (slice_index_or groups i [])))))
  checks_foretell u [] from filled stand settles i there = absurd (omega arith)
  checks_foretell u ([] ∷ groups) from filled stand settles zero there = absurd (let some : 0 < length {A = ℕ} [] = All-head (λ (g : List ℕ). 0 < length g) [] groups filled in omega (arith, some))
  checks_foretell u ((p ∷ ps) ∷ groups) from filled stand settles zero there =
      let count = rest_counted ps in
      let long = length-append (p ∷ ps) (concat_places groups) in
      let at : C.inputs + (from + length (p ∷ ps) - 1) ≡ node_net N (from + length (map net (outputs_at C ps))) = omega (arith, count, nets (from + length (map net (outputs_at C ps)))) in
      ap (bit u) at
      ∙ check_value N from from (net (slice_index C.outputs p)) (map net (outputs_at C ps)) (one_check p ps groups from stand) u
      (record { nodes = λ j low high. settles.nodes j low (omega (arith, high, count, long)) })
  checks_foretell u (group ∷ groups) from filled stand settles (suc i) there =
      let long = length-append group (concat_places groups) in
      checks_foretell u groups (from + length group) (All-tail (λ (g : List ℕ). 0 < length g) group groups filled) (others_stand group groups from stand)
      (record { nodes = λ j low high. settles.nodes j (omega (arith, low)) (omega (arith, high, long)) }) i (omega arith)
