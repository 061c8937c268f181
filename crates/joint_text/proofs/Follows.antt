-- Each part of the joint has its names there: the name of each of its nets is that after the part's label.
use Rattle.std.proofs.Common.{◌≡◌, ℕ, suc, ◌+◌, ◌-◌, ◌<◌, List, [], ◌∷◌, ◌++◌, length, slice_index_or, sym, ap, subst, ◌∙◌, append_assoc, arith, inl, inr}
use Rattle.std.specs.Fmt.{decimal}
use Rattle.std.proofs.lemmas.Bool.{cases_lt}
use Rattle.fault_secure.specs.Circuit.{Circuit, latch_net, node_net, nets}
use Rattle.tsc_net.specs.Names.{text_at}
use Rattle.joint_laws.specs.Joint.{PartOf, part, no_part}
use Rattle.joint_laws.specs.Parts.{StandsIn}
use Rattle.module_join.specs.JointNet.{PlannedOf, own_text, joint, joint_netlist}
use Rattle.module_join.specs.JoinLaws.{planned, IsPlanned, IsJointOf, NamesFollow}
use Rattle.module_join.proofs.Joined.{joined}
use Rattle.module_join.proofs.JointNames.{planned_at, joint_sized}
use Rattle.module_join.proofs.NetNames.{join_names_nets}
use Rattle.joint_text.specs.JointNamed.{part_label, names_under, prefix_of}
use Rattle.joint_text.specs.JointTextLaws.{AreJoinable}
use Rattle.joint_text.proofs.UnderNames.{under_input, under_own}

-- a name after the label is the part's own text of it
pub label_text : (prefix : List ℕ) (i : ℕ) (name : List ℕ) → own_text prefix i name ≡ part_label prefix i ++ name
label_text prefix i name =
    sym (append_assoc prefix (decimal i ++ 95 ∷ []) name ∙ ap (λ (t : List ℕ). prefix ++ t) (append_assoc (decimal i) (95 ∷ []) name))

-- the names of a part's nets, where they stand among these, are those after its label
pub record Follows (names : List (List ℕ)) (prefix : List ℕ) (i : ℕ) (at : ℕ → ℕ) (p : PlannedOf) : Type 0 where
  pub named : (net : ℕ) → net < nets p.net.circuit → text_at names (at net) ≡ text_at (names_under (part_label prefix i) p.net) net
  pub within : (net : ℕ) → net < nets p.net.circuit → at net < length names

-- and so of all parts, the first of which has number i
abbrev pub Follow : List (List ℕ) → List ℕ → ℕ → List PartOf → List PlannedOf → Type 0
Follow names prefix i [] [] = Unit {0}
Follow names prefix i [] (p ∷ parts) = ⊥
Follow names prefix i (q ∷ ps) [] = ⊥
Follow names prefix i (q ∷ ps) (p ∷ parts) = Follows names prefix i q.at p × Follow names prefix (i + 1) ps parts

gather : (names : List (List ℕ)) (prefix : List ℕ) (i : ℕ) (ps : List PartOf) (parts : List PlannedOf) → length ps ≡ length parts
    → ((k : ℕ) → k < length parts → Follows names prefix (i + k) (slice_index_or ps k no_part).at (planned parts k)) → Follow names prefix i ps parts
gather names prefix i [] [] e each = tt
gather names prefix i [] (p ∷ parts) e each = absurd (omega arith)
gather names prefix i (q ∷ ps) [] e each = absurd (omega arith)
gather names prefix i (q ∷ ps) (p ∷ parts) e each = (
  (let at : i + 0 ≡ i = omega arith in subst (λ n. Follows names prefix n q.at p) at (each 0 (omega arith))),
  gather names prefix (i + 1) ps parts (omega arith)
      (λ k h. let at : i + suc k ≡ i + 1 + k = omega arith in subst (λ n. Follows names prefix n (slice_index_or ps k no_part).at (planned parts k)) at (each (suc k) (omega arith))),
)

module _ (parts : List PlannedOf) (are : AreJoinable parts) where
  one : (k : ℕ) → k < length parts → Follows (joint_netlist parts).names (prefix_of parts) k (part (joint parts) k).at (planned parts k)
  one k h = record { named = named; within = within }
    where
      at : ℕ → ℕ
      at = (part (joint parts) k).at

      D : Circuit
      D = (planned parts k).net.circuit

      is : IsPlanned (planned parts k)
      is = planned_at parts are.planned k h

      j : IsJointOf parts
      j = joined parts are.some are.planned

      follow : NamesFollow parts
      follow = join_names_nets parts are.some are.planned

      stands : StandsIn (joint parts).circuit (planned parts k).net.circuit (part (joint parts) k).at (part (joint parts) k).first_latch (part (joint parts) k).first_node
      stands =
          subst (λ (C : Circuit). StandsIn (joint parts).circuit C (part (joint parts) k).at (part (joint parts) k).first_latch (part (joint parts) k).first_node) (j.circuits k h)
          (j.is_joint.stand k (omega (arith, j.counted)))

      named : (net : ℕ) → net < nets (planned parts k).net.circuit
          → text_at (joint_netlist parts).names ((part (joint parts) k).at net) ≡ text_at (names_under (part_label (prefix_of parts) k) (planned parts k).net) net
      named net low = elim (cases_lt net (planned parts k).net.circuit.inputs) [
        | inl input ↦ j.inputs k net h input ∙ sym (under_input (part_label (prefix_of parts) k) (planned parts k).net is.built net input)
        | inr own ↦ elim (cases_lt net ((planned parts k).net.circuit.inputs + length (planned parts k).net.circuit.latches)) [
          | inl held ↦
              let l = net - (planned parts k).net.circuit.inputs in
              let here : latch_net (planned parts k).net.circuit l ≡ net = omega arith in
              subst (λ n. text_at (joint_netlist parts).names ((part (joint parts) k).at n) ≡ text_at (names_under (part_label (prefix_of parts) k) (planned parts k).net) n) here
              (follow.latches k l h (omega arith)
              ∙ label_text (prefix_of parts) k (text_at (planned parts k).net.names (latch_net (planned parts k).net.circuit l))
              ∙ sym (under_own (part_label (prefix_of parts) k) (planned parts k).net is.built (latch_net (planned parts k).net.circuit l) (omega arith) (omega arith)))
          | inr driven ↦
              let n = net - ((planned parts k).net.circuit.inputs + length (planned parts k).net.circuit.latches) in
              let here : node_net (planned parts k).net.circuit n ≡ net = omega arith in
              subst (λ n. text_at (joint_netlist parts).names ((part (joint parts) k).at n) ≡ text_at (names_under (part_label (prefix_of parts) k) (planned parts k).net) n) here
              (follow.nodes k n h (omega arith)
              ∙ label_text (prefix_of parts) k (text_at (planned parts k).net.names (node_net (planned parts k).net.circuit n))
              ∙ sym (under_own (part_label (prefix_of parts) k) (planned parts k).net is.built (node_net (planned parts k).net.circuit n) (omega arith) (omega arith)))
        ]
      ]

      below : (net : ℕ) → net < nets (planned parts k).net.circuit → (part (joint parts) k).at net < nets (joint parts).circuit
      below net low = elim (cases_lt net (planned parts k).net.circuit.inputs) [
        | inl input ↦ let there = stands.inputs net input in omega (arith, there)
        | inr own ↦ elim (cases_lt net ((planned parts k).net.circuit.inputs + length (planned parts k).net.circuit.latches)) [
          | inl held ↦
              let l = net - (planned parts k).net.circuit.inputs in
              let here : latch_net (planned parts k).net.circuit l ≡ net = omega arith in
              subst (λ n. (part (joint parts) k).at n < nets (joint parts).circuit) here (omega (arith, stands.latch_nets l (omega arith), stands.latches_fit))
          | inr driven ↦
              let n = net - ((planned parts k).net.circuit.inputs + length (planned parts k).net.circuit.latches) in
              let here : node_net (planned parts k).net.circuit n ≡ net = omega arith in
              subst (λ n. (part (joint parts) k).at n < nets (joint parts).circuit) here (omega (arith, stands.node_nets n (omega arith), stands.nodes_fit))
        ]
      ]

      within : (net : ℕ) → net < nets (planned parts k).net.circuit → (part (joint parts) k).at net < length (joint_netlist parts).names
      within net low = omega (arith, below net low, joint_sized parts are.some are.planned)

  pub parts_follow : Follow (joint_netlist parts).names (prefix_of parts) 0 (joint parts).parts parts
  parts_follow =
      let j = joined parts are.some are.planned in
      gather (joint_netlist parts).names (prefix_of parts) 0 (joint parts).parts parts j.counted
      (λ k h. let at : k ≡ 0 + k = omega arith in subst (λ n. Follows (joint_netlist parts).names (prefix_of parts) n (part (joint parts) k).at (planned parts k)) at (one k h))
