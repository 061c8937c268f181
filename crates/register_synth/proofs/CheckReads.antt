-- What the checks of groups read: nets of which something holds, where it holds of the outputs' nets and of the checks' own.
use Rattle.std.proofs.Common.{◌≡◌, ℕ, ◌+◌, ◌<◌, ◌≤◌, inl, inr, List, [], ◌∷◌, map, length, slice_index, All, sym, ap, ◌∙◌, subst, arith, length-append}
use Rattle.std.proofs.lemmas.Bool.{cases_lt}
use Rattle.std.proofs.lemmas.List.{length-map}
use Rattle.std.proofs.lemmas.List.Elements.{All-head, All-tail}
use Rattle.tsc_cover.specs.Gates.{not_cover}
use Rattle.fault_secure.specs.Circuit.{Circuit, NodeOf, node, node_net, pin_net, gate}
use Rattle.fault_secure.specs.CodePlan.{concat_places}
use Rattle.parity_code.specs.Chain.{IsChain}
use Rattle.parity_code.specs.GroupChecks.{group_checks}
use Rattle.parity_code.specs.ParityFunction.{outputs_at}
use Rattle.parity_code.specs.ParityCircuit.{chain_nodes, chain_end, parity_nodes, StandAt}
use Rattle.parity_code.proofs.ChainLemmas.{chain_reads, chain_last}
use Rattle.parity_code.proofs.GroupStands.{check_counted}
use Rattle.parity_code.proofs.ParityCircuit.{stand_left, stand_right, chain_stands, length-chain_nodes}

module _ (C N : Circuit) (net : ℕ → ℕ) (nets : (j : ℕ) → node_net N j ≡ C.inputs + j) (P : ℕ → Type 0) (low high : ℕ) (of_node : (i : ℕ) → low ≤ i → i < high → P (node_net N i)) where
  module _ (from first : ℕ) (rest : List ℕ) (stand : StandAt N from (parity_nodes C.inputs from (first ∷ rest))) (begin : low ≤ from) (fits : from + length rest + 1 ≤ high) (first_is : P first) (rest_are : All P rest) where
    chained : IsChain N from first rest (chain_end C.inputs from first rest)
    chained = chain_stands N C.inputs nets from first rest (stand_left N from (chain_nodes C.inputs from first rest) (gate not_cover (chain_end C.inputs from first rest ∷ []) ∷ []) stand)

    inverts : node N (from + length rest) ≡ gate not_cover (chain_end C.inputs from first rest ∷ [])
    inverts =
        let negation : StandAt N (from + length rest) (gate not_cover (chain_end C.inputs from first rest ∷ []) ∷ [])
        = subst (λ k. StandAt N (from + k) (gate not_cover (chain_end C.inputs from first rest ∷ []) ∷ [])) (length-chain_nodes C.inputs from first rest)
        (stand_right N from (chain_nodes C.inputs from first rest) (gate not_cover (chain_end C.inputs from first rest ∷ []) ∷ []) stand) in
        ap (node N) (let e : from + length rest ≡ from + length rest + 0 = omega arith in e) ∙ negation.each 0 (omega arith)

    earlier : (j m : ℕ) → j ≤ from + length rest → (i : ℕ) × (from ≤ i) × (i < j) × (m ≡ node_net N i) → P m
    earlier j m h (i, above, below, e) = subst P (sym e) (of_node i (omega arith) (omega arith))

    last_is : P (chain_end C.inputs from first rest)
    last_is = elim (chain_last P N from first rest (chain_end C.inputs from first rest) chained first_is) [
      | inl old ↦ old
      | inr new ↦ earlier (from + length rest) (chain_end C.inputs from first rest) (omega arith) new
    ]

    check_reads : (j pin : ℕ) → from ≤ j → j < from + length rest + 1 → pin < length (node N j).reads → P (pin_net N j pin)
    check_reads j pin above below has = elim (cases_lt j (from + length rest)) [
      | inl chain ↦ elim (chain_reads P N from first rest (chain_end C.inputs from first rest) chained first_is rest_are j pin above chain has) [
        | inl old ↦ old
        | inr new ↦ earlier j (pin_net N j pin) (omega arith) new
      ]
      | inr end ↦ (
          let at : j ≡ from + length rest = omega arith in
          let reads : (node N j).reads ≡ chain_end C.inputs from first rest ∷ [] = ap (λ (m : NodeOf). m.reads) (ap (node N) at ∙ inverts) in
          let count : length (node N j).reads ≡ 1 = ap length reads in
          let zeroth : pin ≡ 0 = omega arith in
          subst P (sym (ap (slice_index (node N j).reads) zeroth ∙ ap (λ (list : List ℕ). slice_index list 0) reads)) last_is)
    ]

  rest_counted : (ps : List ℕ) → length (map net (outputs_at C ps)) ≡ length ps
  rest_counted ps = length-map (outputs_at C ps) net ∙ length-map ps (slice_index C.outputs)

  -- each pin of the checks reads such a net
  pub checks_read : (groups : List (List ℕ)) (from : ℕ) → low ≤ from → from + length (concat_places groups) ≤ high → All (λ group. All P (map net (outputs_at C group))) groups
      → StandAt N from (group_checks C net groups from) → (j pin : ℕ) → from ≤ j → j < from + length (concat_places groups) → pin < length (node N j).reads → P (pin_net N j pin)
  checks_read [] from begin end all stand j pin above below has = absurd (omega arith)
  checks_read (group ∷ groups) from begin end all stand j pin above below has =
      let long = length-append group (concat_places groups) in
      let others : StandAt N (from + length group) (group_checks C net groups (from + length group))
      = subst (λ (k : ℕ). StandAt N (from + k) (group_checks C net groups (from + length group)))
      (check_counted C.inputs from (map net (outputs_at C group)) ∙ rest_counted group)
      (stand_right N from (parity_nodes C.inputs from (map net (outputs_at C group))) (group_checks C net groups (from + length group)) stand) in
      let mine : StandAt N from (parity_nodes C.inputs from (map net (outputs_at C group)))
      = stand_left N from (parity_nodes C.inputs from (map net (outputs_at C group))) (group_checks C net groups (from + length group)) stand in
      elim (cases_lt j (from + length group)) [
        | inl here ↦ of_group group mine (All-head (λ group. All P (map net (outputs_at C group))) group groups all) (omega arith) here
        | inr later ↦ checks_read groups (from + length group) (omega arith) (omega arith) (All-tail (λ group. All P (map net (outputs_at C group))) group groups all) others j pin later (omega arith) has
      ]
    where
      of_group : (group : List ℕ) → StandAt N from (parity_nodes C.inputs from (map net (outputs_at C group))) → All P (map net (outputs_at C group)) → from + length group ≤ high → j < from + length group → P (pin_net N j pin)
      of_group [] mine are fits here = absurd (omega arith)
      of_group (p ∷ ps) mine are fits here =
          check_reads from (net (slice_index C.outputs p)) (map net (outputs_at C ps)) mine begin (omega (arith, rest_counted ps))
          (All-head P (net (slice_index C.outputs p)) (map net (outputs_at C ps)) are) (All-tail P (net (slice_index C.outputs p)) (map net (outputs_at C ps)) are)
          j pin above (omega (arith, rest_counted ps)) has
