-- By names the joint netlist is what stands part by part; and its text, in portions.
use Rattle.std.proofs.Common.{◌≡◌, ℕ, ◌+◌, ◌*◌, ◌<◌, List, [], ◌∷◌, ◌++◌, codes, map, take, length, sym, ap, ap₂, subst, ◌∙◌, append_assoc, arith}
use Rattle.std.specs.List.{flat_map}
use Rattle.std.proofs.lemmas.List.{length-map, map-append}
use Rattle.std.proofs.lemmas.List.Concat.{flat_map-append}
use Rattle.std.proofs.lemmas.List.Elements.{All-nil}
use Rattle.std.proofs.Math.Seq.{take-append_seam}
use Rattle.tsc_net.specs.Named.{Named, NamedLatch, NamedNode}
use Rattle.tsc_net.specs.Names.{text_at, IsNumbering}
use Rattle.tsc_net.specs.NetlistOf.{named_of, names_of, named_latches, named_nodes}
use Rattle.tsc_text.specs.Written.{WrittenLine, text_of}
use Rattle.blif_write.specs.Layout.{clocked_latch_line, node_lines, head_lines, end_line, clocked_layout}
use Rattle.blif_write.specs.RegisterText.{clock_words}
use Rattle.code_checkers.specs.Gates.{ReadsBelow, gate_at}
use Rattle.code_checkers.specs.GateList.{GateList}
use Rattle.code_checkers.specs.CheckerNodes.{gate_nets, gate_nodes}
use Rattle.code_checkers.specs.Tree.{tree_gates, IsTreeOf}
use Rattle.code_checkers.proofs.TreeSize.{tree-nodes, tree-reads}
use Rattle.joint_laws.specs.JointCircuit.{latches_in, nodes_in, nodes_of, outputs_from, rails_of}
use Rattle.joint_laws.proofs.Standing.{length-parts_from, length-nodes_of}
use Rattle.joint_laws.proofs.JointIsJoint.{length-rails_of}
use Rattle.module_join.specs.JointNet.{PlannedOf, joint_clock, joint_inputs, tree_text, member, joint, joint_netlist}
use Rattle.module_join.specs.TreeNodes.{tree_made}
use Rattle.module_join.proofs.TreeMade.{tree_is_made}
use Rattle.module_join.proofs.JointNames.{joint_numbering, many_l}
use Rattle.module_join.proofs.NetNames.{join_names_nets}
use Rattle.joint_text.specs.JointText.{joint_bytes}
use Rattle.joint_text.specs.JointNamed.{latches_under, nodes_under, rail_names, gate_names, named_gates, prefix_of, tree_names, tree_named, output_names, joint_named}
use Rattle.joint_text.specs.TreeWords.{AreWithin}
use Rattle.joint_text.specs.JointTextLaws.{AreJoinable, JointIsNamed}
use Rattle.joint_text.specs.Portions.{head_text, latches_text, nodes_text, tail_text}
use Rattle.joint_text.proofs.LineTexts.{text_of-append}
use Rattle.joint_text.proofs.TreeLines.{pairs_within}
use Rattle.joint_text.proofs.Follows.{parts_follow}
use Rattle.joint_text.proofs.Blocks.{nodes-append, latches_all, nodes_all, outputs_all, rails_all}
use Rattle.joint_text.proofs.TreeNamed.{gate_nets-length, name_at, all_within, all_below, nets_named, nodes_named}

module _ (parts : List PlannedOf) (are : AreJoinable parts) where
  abbrev ins : List (List ℕ)
  ins = joint_inputs parts

  abbrev names : List (List ℕ)
  names = (joint_netlist parts).names

  abbrev held : ℕ
  held = latches_in (map (member (joint_inputs parts)) parts)

  abbrev driven : ℕ
  driven = nodes_in (map (member (joint_inputs parts)) parts)

  abbrev past : ℕ
  past = length (joint_inputs parts) + held + (driven + tree_gates (length parts))

  abbrev made : GateList
  made = tree_made (length parts)

  abbrev word : List ℕ
  word = rails_of (joint parts).parts

  abbrev next : ℕ
  next = length (joint_inputs parts) + held + driven

  abbrev gate_nets_of : List ℕ
  gate_nets_of = gate_nets word next made.gates

  tree : IsTreeOf (length parts) (tree_made (length parts))
  tree = tree_is_made (length parts)

  -- the word has two nets per part
  wide : length (rails_of (joint parts).parts) ≡ 2 * length parts
  wide =
      length-rails_of (joint parts).parts
      ∙ ap (λ n. 2 * n) (length-parts_from (length (joint_inputs parts)) held past 0 0 (map (member (joint_inputs parts)) parts) ∙ length-map parts (member (joint_inputs parts)))

  word_named : names_of names word ≡ rail_names (prefix_of parts) 0 parts
  word_named = rails_all names ins (prefix_of parts) (length ins) held past 0 0 0 parts are.planned (parts_follow parts are)

  has_tree : (k : ℕ) → k < length (gate_nodes [] made.gates) → text_at names (next + k) ≡ tree_text (prefix_of parts) (0 + k)
  has_tree k h =
      let low : k < tree_gates (length parts) = omega (arith, tree-nodes (length parts) (tree_made (length parts)) are.some tree []) in
      ap (text_at names) (omega (arith, many_l parts are.some are.planned))
      ∙ (join_names_nets parts are.some are.planned).tree k low
      ∙ (let e : k ≡ 0 + k = omega arith in ap (tree_text (prefix_of parts)) e)

  gates_named : names_of names gate_nets_of ≡ tree_names parts
  gates_named =
      nets_named names (prefix_of parts) word made.gates next 0
      (all_within (length word) made.gates (subst (λ n. AreWithin n made.gates) (sym wide) (pairs_within (length parts) made (tree-reads (length parts) (tree_made (length parts)) are.some tree))))
      has_tree
      ∙ ap (λ (w : List (List ℕ)). gate_names (prefix_of parts) w 0 made.gates) word_named

  tree_nodes_named : named_nodes names next (gate_nodes gate_nets_of made.gates) ≡ tree_named parts
  tree_nodes_named =
      let long = gate_nets-length word next made.gates in
      nodes_named names (prefix_of parts) word gate_nets_of made.gates next 0
      (all_below (length gate_nets_of) 0 made.gates (omega (arith, long)) (λ k h. let e : k ≡ 0 + k = omega arith in subst (λ m. ReadsBelow m (gate_at made.gates k)) e (tree.ordered k h)))
      has_tree
      ∙ ap₂ (λ (all own : List (List ℕ)). named_gates all own made.gates) gates_named
      (ap (λ (w : List (List ℕ)). gate_names (prefix_of parts) w 0 made.gates) word_named)

  rail1_named : text_at names (joint parts).rail1 ≡ text_at (tree_names parts) made.rail1
  rail1_named = name_at names gate_nets_of made.rail1 (omega (arith, tree.first_within, gate_nets-length word next made.gates)) ∙ ap (λ (l : List (List ℕ)). text_at l made.rail1) gates_named

  rail2_named : text_at names (joint parts).rail2 ≡ text_at (tree_names parts) made.rail2
  rail2_named = name_at names gate_nets_of made.rail2 (omega (arith, tree.second_within, gate_nets-length word next made.gates)) ∙ ap (λ (l : List (List ℕ)). text_at l made.rail2) gates_named

  inputs_named : take (length (joint_inputs parts)) names ≡ joint_inputs parts
  inputs_named = take-append_seam (joint_inputs parts) _

  numbering : IsNumbering names
  numbering = joint_numbering parts are.some are.planned (let low = are.inputs in omega arith) (let low = are.few in omega arith)

  outputs_named : names_of names (joint parts).circuit.outputs ≡ output_names parts
  outputs_named =
      map-append (text_at names) (outputs_from [] (joint parts).parts) ((joint parts).rail1 ∷ (joint parts).rail2 ∷ [])
      ∙ ap₂ (λ (xs ys : List (List ℕ)). xs ++ ys)
      (outputs_all names ins (prefix_of parts) (length ins) held past numbering 0 0 0 parts [] are.planned (parts_follow parts are) (All-nil (λ n. n < length names)))
      (ap₂ (λ (a b : List ℕ). a ∷ (b ∷ [])) rail1_named rail2_named)

  latches_named : named_latches names (length (joint_inputs parts)) (joint parts).circuit.latches ≡ latches_under (prefix_of parts) 0 parts
  latches_named =
      (let e : length ins ≡ length ins + 0 = omega arith in ap (λ n. named_latches names n (joint parts).circuit.latches) e)
      ∙ latches_all names ins (prefix_of parts) (length ins) held past 0 0 0 parts are.planned (parts_follow parts are)

  nodes_named_all : named_nodes names (length (joint_inputs parts) + length (joint parts).circuit.latches) (joint parts).circuit.nodes ≡ nodes_under (prefix_of parts) 0 parts ++ tree_named parts
  nodes_named_all =
      let own = nodes_of (joint parts).parts in
      let first : length ins + length (joint parts).circuit.latches ≡ length ins + held + 0 = omega (arith, many_l parts are.some are.planned) in
      let many = length-nodes_of (length ins) held past 0 0 (map (member ins) parts) in
      let second : length ins + held + 0 + length (nodes_of (joint parts).parts) ≡ next = omega (arith, many) in
      ap (λ n. named_nodes names n (joint parts).circuit.nodes) first
      ∙ nodes-append names (length ins + held + 0) own (gate_nodes gate_nets_of made.gates)
      ∙ ap₂ (λ (xs ys : List NamedNode). xs ++ ys)
      (nodes_all names ins (prefix_of parts) (length ins) held past 0 0 0 parts are.planned (parts_follow parts are))
      (ap (λ n. named_nodes names n (gate_nodes gate_nets_of made.gates)) second ∙ tree_nodes_named)

-- the netlist by names of these inputs, outputs, latches and nodes
abbrev named_by : List (List ℕ) → List (List ℕ) → List NamedLatch → List NamedNode → Named
named_by inputs outputs latches nodes = record { model = codes "joint"; inputs = inputs; outputs = outputs; latches = latches; nodes = nodes }

pub joint_is_named : JointIsNamed
joint_is_named parts are =
    let net = joint_netlist parts in
    let N = named_of (joint_netlist parts) in
    ap (λ (i : List (List ℕ)). named_by i N.outputs N.latches N.nodes) (inputs_named parts are)
    ∙ ap (λ (o : List (List ℕ)). named_by (joint_inputs parts) o N.latches N.nodes) (outputs_named parts are)
    ∙ ap (λ (ls : List NamedLatch). named_by (joint_inputs parts) (output_names parts) ls N.nodes) (latches_named parts are)
    ∙ ap (λ (ns : List NamedNode). named_by (joint_inputs parts) (output_names parts) (latches_under (prefix_of parts) 0 parts) ns) (nodes_named_all parts are)

-- lines in five stretches
five : (a b c d e : List WrittenLine) → text_of (((a ++ b) ++ (c ++ d)) ++ e) ≡ text_of a ++ (text_of b ++ (text_of c ++ (text_of d ++ text_of e)))
five a b c d e =
    text_of-append ((a ++ b) ++ (c ++ d)) e
    ∙ ap (λ (t : List ℕ). t ++ text_of e) (text_of-append (a ++ b) (c ++ d) ∙ ap₂ (λ (x y : List ℕ). x ++ y) (text_of-append a b) (text_of-append c d))
    ∙ simp append_assoc

-- the text of the joint, in portions
pub joint_portions : (parts : List PlannedOf) → AreJoinable parts
    → joint_bytes parts ≡ head_text parts ++ (latches_text (clock_words (joint_clock parts)) (prefix_of parts) 0 parts ++ (nodes_text (prefix_of parts) 0 parts ++ tail_text parts))
joint_portions parts are =
    let N = joint_named parts in
    let clock = clock_words (joint_clock parts) in
    ap (λ (M : Named). text_of (clocked_layout clock M [])) (joint_is_named parts are)
    ∙ ap (λ (ls : List WrittenLine). text_of (((head_lines N ++ map (clocked_latch_line clock) N.latches) ++ ls) ++ end_line ∷ []))
    (flat_map-append node_lines (nodes_under (prefix_of parts) 0 parts) (tree_named parts))
    ∙ five (head_lines N) (map (clocked_latch_line clock) N.latches) (flat_map node_lines (nodes_under (prefix_of parts) 0 parts)) (flat_map node_lines (tree_named parts)) (end_line ∷ [])
