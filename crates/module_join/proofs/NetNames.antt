-- The name of each net of the joint netlist is that of where it comes from.
use Rattle.std.proofs.Common.{◌≡◌, ℕ, zero, suc, ◌+◌, ◌<◌, List, [], ◌∷◌, ◌++◌, map, length, slice_index_or, ap, subst, ◌∙◌, arith}
use Rattle.std.specs.List.{range_with_len}
use Rattle.std.proofs.lemmas.List.{length-append, length-map, get_or-map, get_or-append-add}
use Rattle.std.proofs.lemmas.List.FromFn.{get_or-map-range_with_len}
use Rattle.std.proofs.Math.ListN.{get_or-append}
use Rattle.fault_secure.specs.Circuit.{Circuit, latch_net, node_net}
use Rattle.tsc_net.specs.Names.{text_at}
use Rattle.code_checkers.specs.Tree.{tree_gates}
use Rattle.joint_laws.specs.Joint.{part, no_part}
use Rattle.joint_laws.specs.JointCircuit.{latches_in, nodes_in, parts_from}
use Rattle.module_join.specs.JointNet.{PlannedOf, joint_inputs, taken_names, joint_prefix, own_text, tree_text, latch_names, node_names, own_texts, member, joint, joint_netlist}
use Rattle.module_join.specs.JoinLaws.{planned, ArePlanned, JoinNamesNets}
use Rattle.module_join.proofs.Joined.{joined}
use Rattle.module_join.proofs.JointNames.{planned_at, length-latch_names, length-node_names, latch_name, node_name, length-latch_texts, length-node_texts, many_l}

-- how many such names the parts before number i have
abbrev offset : (PlannedOf → List (List ℕ)) → List PlannedOf → ℕ → ℕ
offset names [] i = 0
offset names (p ∷ parts) zero = 0
offset names (p ∷ parts) (suc i) = length (names p) + offset names parts i

-- the text of the k-th name of part number i
own_at : (prefix : List ℕ) (names : PlannedOf → List (List ℕ)) (first : ℕ) (parts : List PlannedOf) (i k : ℕ) → i < length parts → k < length (names (planned parts i))
    → (text_at (own_texts prefix names first parts) (offset names parts i + k) ≡ own_text prefix (first + i) (text_at (names (planned parts i)) k))
    × (offset names parts i + k < length (own_texts prefix names first parts))
own_at prefix names first [] i k h low = absurd (omega arith)
own_at prefix names first (p ∷ parts) zero k h low =
    let own = map (own_text prefix first) (names p) in
    let rest = own_texts prefix names (first + 1) parts in (
      (let e : 0 + k ≡ k = omega arith in ap (text_at (own_texts prefix names first (p ∷ parts))) e)
          ∙ get_or-append (map (own_text prefix first) (names p)) (own_texts prefix names (first + 1) parts) [] k (omega (arith, length-map (names p) (own_text prefix first)))
          ∙ get_or-map (own_text prefix first) (names p) k [] [] low
          ∙ (let e : first ≡ first + 0 = omega arith in ap (λ n. own_text prefix n (text_at (names p) k)) e),
      omega (arith, length-append (map (own_text prefix first) (names p)) (own_texts prefix names (first + 1) parts), length-map (names p) (own_text prefix first)),
    )
own_at prefix names first (p ∷ parts) (suc i) k h low =
    let later = own_at prefix names (first + 1) parts i k (omega arith) low in
    let within = later.1 in (
      (let e : (length (names p) + offset names parts i) + k ≡ length (map (own_text prefix first) (names p)) + (offset names parts i + k) =
          omega (arith, length-map (names p) (own_text prefix first)) in ap (text_at (own_texts prefix names first (p ∷ parts))) e)
          ∙ get_or-append-add (map (own_text prefix first) (names p)) (own_texts prefix names (first + 1) parts) (offset names parts i + k) []
          ∙ later.0
          ∙ (let e : (first + 1) + i ≡ first + suc i = omega arith in ap (λ n. own_text prefix n (text_at (names (planned parts i)) k)) e),
      omega (arith, length-append (map (own_text prefix first) (names p)) (own_texts prefix names (first + 1) parts), length-map (names p) (own_text prefix first)),
    )

-- where the latches and the nodes of part number i begin
begin_at : (names : List (List ℕ)) (inputs latches past fl fn : ℕ) (parts : List PlannedOf) → ArePlanned parts → (i : ℕ) → i < length parts
    → ((slice_index_or (parts_from inputs latches past fl fn (map (member names) parts)) i no_part).first_latch ≡ fl + offset latch_names parts i)
    × ((slice_index_or (parts_from inputs latches past fl fn (map (member names) parts)) i no_part).first_node ≡ fn + offset node_names parts i)
begin_at names inputs latches past fl fn [] are i h = absurd (omega arith)
begin_at names inputs latches past fl fn (p ∷ parts) are zero h = (omega arith, omega arith)
begin_at names inputs latches past fl fn (p ∷ parts) are (suc i) h =
    let later = begin_at names inputs latches past (fl + length p.net.circuit.latches) (fn + length p.net.circuit.nodes) parts are.1 i (omega arith) in
    (later.0 ∙ omega (arith, length-latch_names p are.0), later.1 ∙ omega (arith, length-node_names p are.0))

module _ (parts : List PlannedOf) (some : 0 < length parts) (are : ArePlanned parts) where
  abbrev ins : List (List ℕ)
  ins = joint_inputs parts

  abbrev prefix : List ℕ
  prefix = joint_prefix (taken_names parts)

  abbrev trees : List (List ℕ)
  trees = map (tree_text (joint_prefix (taken_names parts))) (range_with_len 0 (tree_gates (length parts)))

  begins_at : (i : ℕ) → i < length parts → ((part (joint parts) i).first_latch ≡ 0 + offset latch_names parts i) × ((part (joint parts) i).first_node ≡ 0 + offset node_names parts i)
  begins_at i h =
      let ms = map (member (joint_inputs parts)) parts in
      begin_at (joint_inputs parts) (length (joint_inputs parts)) (latches_in ms) (length (joint_inputs parts) + latches_in ms + (nodes_in ms + tree_gates (length parts))) 0 0 parts are i h

  long_latches : length (own_texts prefix latch_names 0 parts) ≡ latches_in (map (member (joint_inputs parts)) parts)
  long_latches = length-latch_texts (joint_inputs parts) (joint_prefix (taken_names parts)) 0 parts are

  long_nodes : length (own_texts prefix node_names 0 parts) ≡ nodes_in (map (member (joint_inputs parts)) parts)
  long_nodes = length-node_texts (joint_inputs parts) (joint_prefix (taken_names parts)) 0 parts are

  -- the names at the places of latches, of nodes, and of the tree
  at_latches : (k : ℕ) → k < length (own_texts prefix latch_names 0 parts) → text_at (joint_netlist parts).names (length ins + k) ≡ text_at (own_texts prefix latch_names 0 parts) k
  at_latches k h =
      get_or-append-add ins (own_texts prefix latch_names 0 parts ++ (own_texts prefix node_names 0 parts ++ trees)) k []
      ∙ get_or-append (own_texts prefix latch_names 0 parts) (own_texts prefix node_names 0 parts ++ trees) [] k h

  at_behind : (k : ℕ) → text_at (joint_netlist parts).names (length ins + (length (own_texts prefix latch_names 0 parts) + k)) ≡ text_at (own_texts prefix node_names 0 parts ++ trees) k
  at_behind k =
      get_or-append-add ins (own_texts prefix latch_names 0 parts ++ (own_texts prefix node_names 0 parts ++ trees)) (length (own_texts prefix latch_names 0 parts) + k) []
      ∙ get_or-append-add (own_texts prefix latch_names 0 parts) (own_texts prefix node_names 0 parts ++ trees) k []

  latch_named : (i l : ℕ) → i < length parts → l < length (planned parts i).net.circuit.latches
      → text_at (joint_netlist parts).names ((part (joint parts) i).at (latch_net (planned parts i).net.circuit l))
      ≡ own_text (joint_prefix (taken_names parts)) i (text_at (planned parts i).net.names (latch_net (planned parts i).net.circuit l))
  latch_named i l h low =
      let j = joined parts some are in
      let p = planned_at parts are i h in
      let at : (part (joint parts) i).at (latch_net (planned parts i).net.circuit l) ≡ latch_net (joint parts).circuit ((part (joint parts) i).first_latch + l) =
      subst (λ (D : Circuit). l < length D.latches → (part (joint parts) i).at (latch_net D l) ≡ latch_net (joint parts).circuit ((part (joint parts) i).first_latch + l)) (j.circuits i h)
      (λ k. (j.is_joint.stand i (omega (arith, j.counted))).latch_nets l k) low in
      let begin = (begins_at i h).0 in
      let own = own_at (joint_prefix (taken_names parts)) latch_names 0 parts i l h (omega (arith, length-latch_names (planned parts i) p)) in
      ap (text_at (joint_netlist parts).names) (at ∙ omega arith)
      ∙ at_latches (offset latch_names parts i + l) own.1
      ∙ own.0
      ∙ (let e : 0 + i ≡ i = omega arith in ap (λ n. own_text (joint_prefix (taken_names parts)) n (text_at (latch_names (planned parts i)) l)) e)
      ∙ ap (own_text (joint_prefix (taken_names parts)) i) (latch_name (planned parts i) p l low)

  node_named : (i n : ℕ) → i < length parts → n < length (planned parts i).net.circuit.nodes
      → text_at (joint_netlist parts).names ((part (joint parts) i).at (node_net (planned parts i).net.circuit n))
      ≡ own_text (joint_prefix (taken_names parts)) i (text_at (planned parts i).net.names (node_net (planned parts i).net.circuit n))
  node_named i n h low =
      let j = joined parts some are in
      let p = planned_at parts are i h in
      let at : (part (joint parts) i).at (node_net (planned parts i).net.circuit n) ≡ node_net (joint parts).circuit ((part (joint parts) i).first_node + n) =
      subst (λ (D : Circuit). n < length D.nodes → (part (joint parts) i).at (node_net D n) ≡ node_net (joint parts).circuit ((part (joint parts) i).first_node + n)) (j.circuits i h)
      (λ k. (j.is_joint.stand i (omega (arith, j.counted))).node_nets n k) low in
      let begin = (begins_at i h).1 in
      let own = own_at (joint_prefix (taken_names parts)) node_names 0 parts i n h (omega (arith, length-node_names (planned parts i) p)) in
      ap (text_at (joint_netlist parts).names) (at ∙ omega (arith, long_latches, many_l parts some are))
      ∙ at_behind (offset node_names parts i + n)
      ∙ get_or-append (own_texts prefix node_names 0 parts) trees [] (offset node_names parts i + n) own.1
      ∙ own.0
      ∙ (let e : 0 + i ≡ i = omega arith in ap (λ m. own_text (joint_prefix (taken_names parts)) m (text_at (node_names (planned parts i)) n)) e)
      ∙ ap (own_text (joint_prefix (taken_names parts)) i) (node_name (planned parts i) p n)

  tree_named : (k : ℕ) → k < tree_gates (length parts)
      → text_at (joint_netlist parts).names (node_net (joint parts).circuit ((joint parts).tree + k)) ≡ tree_text (joint_prefix (taken_names parts)) k
  tree_named k h =
      ap (text_at (joint_netlist parts).names) (omega (arith, long_latches, long_nodes, many_l parts some are))
      ∙ at_behind (length (own_texts prefix node_names 0 parts) + k)
      ∙ get_or-append-add (own_texts prefix node_names 0 parts) trees k []
      ∙ get_or-map-range_with_len (tree_text (joint_prefix (taken_names parts))) 0 (tree_gates (length parts)) k k [] h (omega arith)

-- in a joint netlist the name of each net is that of where it comes from
pub join_names_nets : JoinNamesNets
join_names_nets parts some are = record {
  latches = latch_named parts some are;
  nodes = node_named parts some are;
  tree = tree_named parts some are;
}
