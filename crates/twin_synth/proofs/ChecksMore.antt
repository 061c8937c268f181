-- A check more is pushed.
use Rattle.std.proofs.Common.{◌≡◌, ℕ, ◌+◌, ◌<◌, List, [], ◌∷◌, ◌++◌, map, drop, length, slice_index, slice_index_or, All, refl, sym, ◌∙◌, ap, ap₂, arith, length-append, append_assoc}
use Rattle.std.proofs.lemmas.List.{length-map, drop_more}
use Rattle.fault_secure.specs.Circuit.{Circuit, NodeOf, nets}
use Rattle.fault_secure.specs.CodePlan.{concat_places}
use Rattle.tsc_net.specs.NetlistOf.{NetlistOf}
use Rattle.parity_code.specs.ParityCircuit.{parity_nodes}
use Rattle.parity_code.proofs.GroupStands.{check_counted}
use Rattle.twin_synth.specs.Numbered.{more_nodes}
use Rattle.twin_synth.specs.Checks.{first_node, parity_over, checks_from, checks_over}

module _ (shown : List ℕ) (groups : List (List ℕ)) (i : ℕ) (item group : List ℕ) (here next : NetlistOf) (low : i < length groups) (is : item ≡ slice_index_or groups i item) (same : group ≡ item)
    (pushed : next ≡ more_nodes here (parity_over here (map (slice_index shown) group))) where
  split : drop i groups ≡ group ∷ drop (i + 1) groups
  split = drop_more groups i item low ∙ ap (λ (g : List ℕ). g ∷ drop (i + 1) groups) (sym is ∙ sym same)

  abbrev check : List NodeOf
  check = parity_over here (map (slice_index shown) group)

  counted : length check ≡ length group
  counted = check_counted (first_node here) (length here.circuit.nodes) (map (slice_index shown) group) ∙ length-map group (slice_index shown)

  -- the checks that are left follow it
  pub check_more : more_nodes next (checks_over next shown (drop (i + 1) groups)) ≡ more_nodes here (checks_over here shown (drop i groups))
  check_more =
      let rest : List (List ℕ) = drop (i + 1) groups in
      let after : length (here.circuit.nodes ++ check) ≡ length here.circuit.nodes + length group = length-append here.circuit.nodes check ∙ ap (λ n. length here.circuit.nodes + n) counted in
      ap (λ (N : NetlistOf). more_nodes N (checks_over N shown (drop (i + 1) groups))) pushed
      ∙ ap (λ (nodes : List NodeOf). let C = here.circuit in let N : NetlistOf = record here { circuit = record C { nodes = nodes } } in N)
      (append_assoc here.circuit.nodes check (checks_from (first_node here) (length (here.circuit.nodes ++ check)) shown (drop (i + 1) groups))
      ∙ ap (λ (n : ℕ). here.circuit.nodes ++ (check ++ checks_from (first_node here) n shown (drop (i + 1) groups))) after)
      ∙ ap (λ (gs : List (List ℕ)). more_nodes here (checks_over here shown gs)) (sym split)

  -- and so many nets
  pub check_counts : nets next.circuit + length (concat_places (drop (i + 1) groups)) ≡ nets here.circuit + length (concat_places (drop i groups))
  check_counts =
      let more : nets next.circuit ≡ here.circuit.inputs + length here.circuit.latches + length (here.circuit.nodes ++ check) = ap (λ (N : NetlistOf). nets N.circuit) pushed in
      omega (
        arith,
        more,
        length-append here.circuit.nodes check,
        counted,
        ap (λ (gs : List (List ℕ)). length (concat_places gs)) split,
        length-append group (concat_places (drop (i + 1) groups)),
      )
