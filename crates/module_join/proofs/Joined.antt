-- The joint netlist of parts is a joint of them.
use Rattle.std.proofs.Common.{◌≡◌, ℕ, zero, suc, ◌+◌, ◌<◌, ◌||◌, true, List, [], ◌∷◌, ◌++◌, map, length, slice_index_or, All, refl, sym, ap, subst, subst₂, ◌∙◌, inl, inr, arith}
use Rattle.std.specs.Str.{bytes_eq}
use Rattle.std.specs.List.{list_any, sum_by}
use Rattle.std.proofs.lemmas.Bool.{cases_Bool, cond-true, cond-false}
use Rattle.std.proofs.lemmas.List.{length-map, length-take-le, get_or-map, get_or-take}
use Rattle.std.proofs.lemmas.List.Elements.{All-nil, All-cons, All-weaker}
use Rattle.std.proofs.lemmas.List.Folds.{list_any-append}
use Rattle.std.proofs.lemmas.List.Sums.{sum_by-cons}
use Rattle.std.proofs.Math.ListN.{get_or-append}
use Rattle.fault_secure.specs.CellSecure.{IsCellSecure}
use Rattle.fault_secure.specs.FaultSecure.{IsFaultSecure}
use Rattle.tsc_net.specs.Names.{has_text, with_text, place_of_text, text_at}
use Rattle.tsc_net.proofs.NameLemmas.{place_within, text_at_place, has_added}
use Rattle.code_checkers.specs.Tree.{tree_gates}
use Rattle.joint_laws.specs.Joint.{no_part}
use Rattle.joint_laws.specs.JointCircuit.{latches_in, nodes_in, parts_from}
use Rattle.joint_laws.specs.JointCircuitLaws.{IsTree, IsMember, AreMembers, AreSoundMembers}
use Rattle.joint_laws.proofs.Standing.{length-parts_from, at_input}
use Rattle.joint_laws.proofs.JointIsJoint.{many_nodes, joint_circuit_is_joint}
use Rattle.joint_laws.proofs.JointIsAcyclic.{joint_circuit_is_acyclic, joint_circuit_is_closed}
use Rattle.joint_laws.proofs.JoinedCells.{joined_is_cell_secure}
use Rattle.joint_laws.proofs.JoinedFaults.{joined_is_fault_secure}
use Rattle.register_joints.specs.PartSource.{IsPartSecure, IsPartFaultSecure}
use Rattle.register_joints.proofs.JoinedParts.{secure_parts_join, fault_secure_parts_join}
use Rattle.module_join.specs.TreeNodes.{nodes_of_tree, tree_made}
use Rattle.module_join.specs.JointNet.{PlannedOf, input_names, with_texts, inputs_from, joint_inputs, member, joint, joint_netlist}
use Rattle.module_join.specs.JoinLaws.{planned, IsPlanned, ArePlanned, IsJointOf, JoinIsJoint, JoinIsCellSecure, JoinIsFaultSecure, JoinIsSecureForSources, JoinIsFaultSecureForSources}
use Rattle.module_join.proofs.TreeNodes.{tree_nodes_decide}
use Rattle.module_join.proofs.TreeMade.{tree_is_made}

-- ---- each input's name is among those of the joint

has_more : (names : List (List ℕ)) (u t : List ℕ) → has_text names t ≡ true → has_text (with_text names u) t ≡ true
has_more names u t h = elim (cases_Bool (has_text names u)) [
  | inl there ↦ ap (λ l. has_text l t) (cond-true (has_text names u) names (names ++ u ∷ []) there) ∙ h
  | inr absent ↦ ap (λ l. has_text l t) (cond-false (has_text names u) names (names ++ u ∷ []) absent)
      ∙ list_any-append (bytes_eq t) names (u ∷ []) ∙ ap (λ b. b || list_any (bytes_eq t) (u ∷ [])) h
]

has_all_more : (seen texts : List (List ℕ)) (t : List ℕ) → has_text seen t ≡ true → has_text (with_texts seen texts) t ≡ true
has_all_more seen [] t h = h
has_all_more seen (u ∷ texts) t h = has_all_more (with_text seen u) texts t (has_more seen u t h)

has_each : (seen texts : List (List ℕ)) → All (λ t. has_text (with_texts seen texts) t ≡ true) texts
has_each seen [] = All-nil (λ t. has_text seen t ≡ true)
has_each seen (u ∷ texts) =
    All-cons (λ t. has_text (with_texts (with_text seen u) texts) t ≡ true) u texts (has_all_more (with_text seen u) texts u (has_added seen u)) (has_each (with_text seen u) texts)

has_from : (seen : List (List ℕ)) (parts : List PlannedOf) (t : List ℕ) → has_text seen t ≡ true → has_text (inputs_from seen parts) t ≡ true
has_from seen [] t h = h
has_from seen (p ∷ parts) t h = has_from (with_texts seen (input_names p.net)) parts t (has_all_more seen (input_names p.net) t h)

-- the parts' input names are among these
abbrev HasInputs : List (List ℕ) → List PlannedOf → Type 0
HasInputs names [] = Unit {0}
HasInputs names (p ∷ parts) = All (λ t. has_text names t ≡ true) (input_names p.net) × HasInputs names parts

has_inputs : (seen : List (List ℕ)) (parts : List PlannedOf) → HasInputs (inputs_from seen parts) parts
has_inputs seen [] = tt
has_inputs seen (p ∷ parts) =
    let now = with_texts seen (input_names p.net) in (
      All-weaker (λ t. has_text now t ≡ true) (λ t. has_text (inputs_from now parts) t ≡ true) (λ t h. has_from now parts t h) (input_names p.net) (has_each seen (input_names p.net)),
      has_inputs now parts,
    )

many_inputs : (p : PlannedOf) → IsPlanned p → length (input_names p.net) ≡ p.net.circuit.inputs
many_inputs p is =
    let sized = is.built.sized in length-take-le p.net.circuit.inputs p.net.names (omega arith)

one_member : (names : List (List ℕ)) (p : PlannedOf) → IsPlanned p → All (λ t. has_text names t ≡ true) (input_names p.net) → IsMember (length names) (member names p)
one_member names p is has = record {
  within = λ i h.
      let low : i < length (input_names p.net) = omega (arith, many_inputs p is) in
      subst (λ n. n < length names) (sym (get_or-map (place_of_text names) (input_names p.net) i [] 0 low))
      (place_within names (text_at (input_names p.net) i) (has i [] low));
}

all_members : (names : List (List ℕ)) (parts : List PlannedOf) → ArePlanned parts → HasInputs names parts → AreMembers (length names) (map (member names) parts)
all_members names [] are has = tt
all_members names (p ∷ parts) are has = (one_member names p are.0 has.0, all_members names parts are.1 has.1)

all_sound : (names : List (List ℕ)) (parts : List PlannedOf) → ArePlanned parts → AreSoundMembers (map (member names) parts)
all_sound names [] are = tt
all_sound names (p ∷ parts) are =
    let is : IsPlanned p = are.0 in
    (record { acyclic = is.built.acyclic; closed = is.built.closed; rails = is.plan.rails }, all_sound names parts are.1)

-- as many nodes as the netlists have
sum_of_nodes : (names : List (List ℕ)) (parts : List PlannedOf) → nodes_in (map (member names) parts) ≡ sum_by (λ (p : PlannedOf). length p.net.circuit.nodes) parts
sum_of_nodes names [] = refl
sum_of_nodes names (p ∷ parts) =
    ap (λ n. length p.net.circuit.nodes + n) (sum_of_nodes names parts) ∙ sym (sum_by-cons (λ (q : PlannedOf). length q.net.circuit.nodes) p parts)

-- ---- part number i is the i-th netlist

module _ (names : List (List ℕ)) (inputs latches past : ℕ) where
  abbrev placed : ℕ → ℕ → List PlannedOf → ℕ → ℕ → Type 0
  placed fl fn parts i k =
      ((slice_index_or (parts_from inputs latches past fl fn (map (member names) parts)) i no_part).circuit ≡ (planned parts i).net.circuit)
      × ((slice_index_or (parts_from inputs latches past fl fn (map (member names) parts)) i no_part).plan ≡ (planned parts i).plan)
      × (k < (planned parts i).net.circuit.inputs
      → ((slice_index_or (parts_from inputs latches past fl fn (map (member names) parts)) i no_part).at k ≡ place_of_text names (text_at (planned parts i).net.names k))
      × (has_text names (text_at (planned parts i).net.names k) ≡ true))

  part_is : (fl fn : ℕ) (parts : List PlannedOf) → ArePlanned parts → HasInputs names parts → (i k : ℕ) → i < length parts → placed fl fn parts i k
  part_is fl fn [] are has i k h = absurd (omega arith)
  part_is fl fn (p ∷ parts) are has zero k h = (
    refl,
    refl,
    λ low.
        let own : k < length (input_names p.net) = omega (arith, many_inputs p are.0) in
        let name : text_at (input_names p.net) k ≡ text_at p.net.names k = get_or-take p.net.circuit.inputs p.net.names k [] low in (
          at_input inputs latches past fl fn (member names p) k low ∙ get_or-map (place_of_text names) (input_names p.net) k [] 0 own ∙ ap (place_of_text names) name,
          subst (λ t. has_text names t ≡ true) name (has.0 k [] own),
        ),
  )
  part_is fl fn (p ∷ parts) are has (suc i) k h = part_is (fl + length p.net.circuit.latches) (fn + length p.net.circuit.nodes) parts are.1 has.1 i k (omega arith)

module _ (parts : List PlannedOf) (some : 0 < length parts) (are : ArePlanned parts) where
  names : List (List ℕ)
  names = joint_inputs parts

  many : length (map (member (joint_inputs parts)) parts) ≡ length parts
  many = length-map parts (member (joint_inputs parts))

  pub tree : IsTree (length (map (member (joint_inputs parts)) parts)) (tree_gates (length parts)) (nodes_of_tree (tree_made (length parts)))
  tree = subst (λ n. IsTree n (tree_gates (length parts)) (nodes_of_tree (tree_made (length parts)))) (sym many)
      (tree_nodes_decide (length parts) (tree_made (length parts)) some (tree_is_made (length parts)))

  members : AreMembers (length (joint_inputs parts)) (map (member (joint_inputs parts)) parts)
  members = all_members (joint_inputs parts) parts are (has_inputs [] parts)

  sound : AreSoundMembers (map (member (joint_inputs parts)) parts)
  sound = all_sound (joint_inputs parts) parts are

  -- planned netlists, at least one of them, have the joint that is stated
  pub joined : IsJointOf parts
  joined =
      let ms = map (member (joint_inputs parts)) parts in
      let past = length (joint_inputs parts) + latches_in ms + (nodes_in ms + tree_gates (length parts)) in
      record {
        is_joint = joint_circuit_is_joint (length (joint_inputs parts)) ms (tree_gates (length parts)) (nodes_of_tree (tree_made (length parts))) members tree;
        acyclic = joint_circuit_is_acyclic (length (joint_inputs parts)) ms (tree_gates (length parts)) (nodes_of_tree (tree_made (length parts))) members sound tree;
        closed = joint_circuit_is_closed (length (joint_inputs parts)) ms (tree_gates (length parts)) (nodes_of_tree (tree_made (length parts))) members sound tree;
        counted = length-parts_from (length (joint_inputs parts)) (latches_in ms) past 0 0 ms ∙ many;
        nodes = many_nodes (length (joint_inputs parts)) ms (tree_gates (length parts)) (nodes_of_tree (tree_made (length parts))) tree
            ∙ ap (λ n. n + tree_gates (length parts)) (sum_of_nodes (joint_inputs parts) parts);
        circuits = λ i h. (part_is (joint_inputs parts) (length (joint_inputs parts)) (latches_in ms) past 0 0 parts are (has_inputs [] parts) i 0 h).0;
        plans = λ i h. (part_is (joint_inputs parts) (length (joint_inputs parts)) (latches_in ms) past 0 0 parts are (has_inputs [] parts) i 0 h).1;
        inputs = λ i k h low.
            let there = (part_is (joint_inputs parts) (length (joint_inputs parts)) (latches_in ms) past 0 0 parts are (has_inputs [] parts) i k h).2 low in
            ap (text_at (joint_netlist parts).names) there.0
            ∙ get_or-append (joint_inputs parts) _ [] (place_of_text (joint_inputs parts) (text_at (planned parts i).net.names k))
            (place_within (joint_inputs parts) (text_at (planned parts i).net.names k) there.1)
            ∙ text_at_place (joint_inputs parts) (text_at (planned parts i).net.names k) there.1;
      }

pub join_is_joint : JoinIsJoint
join_is_joint parts some are = joined parts some are

-- planned netlists that are each secure against any one failing cell have a joint that is so
pub join_is_cell_secure : JoinIsCellSecure
join_is_cell_secure M parts some are secure =
    let j = joined parts some are in
    joined_is_cell_secure M (joint parts) j.is_joint j.acyclic (λ i h.
    let low : i < length parts = omega (arith, j.counted) in
    subst₂ (IsCellSecure (M i)) (sym (j.circuits i low)) (sym (j.plans i low)) (secure i low))

-- planned netlists that are each fault-secure have a fault-secure joint
pub join_is_fault_secure : JoinIsFaultSecure
join_is_fault_secure M parts some are secure =
    let j = joined parts some are in
    joined_is_fault_secure M (joint parts) j.is_joint j.acyclic (λ i h.
    let low : i < length parts = omega (arith, j.counted) in
    subst₂ (IsFaultSecure (M i)) (sym (j.circuits i low)) (sym (j.plans i low)) (secure i low))

-- planned netlists that are each secure for its source, logic or a circuit with registers, have a joint that is so for all these sources
pub join_is_secure_for_sources : JoinIsSecureForSources
join_is_secure_for_sources source parts some are secure =
    let j = joined parts some are in
    secure_parts_join source (joint parts) j.is_joint j.acyclic (λ i h.
    let low : i < length parts = omega (arith, j.counted) in
    subst₂ (IsPartSecure (source i)) (sym (j.circuits i low)) (sym (j.plans i low)) (secure i low))

-- and so against each listed fault
pub join_is_fault_secure_for_sources : JoinIsFaultSecureForSources
join_is_fault_secure_for_sources source parts some are secure =
    let j = joined parts some are in
    fault_secure_parts_join source (joint parts) j.is_joint j.acyclic (λ i h.
    let low : i < length parts = omega (arith, j.counted) in
    subst₂ (IsPartFaultSecure (source i)) (sym (j.circuits i low)) (sym (j.plans i low)) (secure i low))
