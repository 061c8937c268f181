-- The joint netlist by names, part by part: the nets of a part, except its inputs, after its label, and the tree over the names of the rails.
use Rattle.std.specs.Prelude.{ℕ, ◌+◌, List, [], ◌∷◌, ◌++◌, map, take, drop, length, codes}
use Rattle.std.specs.List.{range_with_len}
use Rattle.tsc_net.specs.Named.{Named, NamedLatch, NamedNode}
use Rattle.tsc_net.specs.Names.{text_at}
use Rattle.tsc_net.specs.NetlistOf.{NetlistOf, names_of, named_of}
use Rattle.code_checkers.specs.CheckerNodes.{net_behind}
use Rattle.code_checkers.specs.Nodes.{cover_of, reads_of}
use Rattle.code_checkers.specs.declared.gate.CheckGate.{CheckGate}
use Rattle.code_checkers.specs.declared.gate.CheckGate.TheVariants as gate
use Rattle.module_join.specs.JointNet.{PlannedOf, input_names, with_texts, joint_inputs, taken_names, joint_prefix, own_text, tree_text}
use Rattle.module_join.specs.TreeNodes.{tree_made}

-- what the names of part number i begin with: the prefix, the number and `_`
abbrev pub part_label : List ℕ → ℕ → List ℕ
part_label prefix i = own_text prefix i []

-- the names of a netlist's nets, each after a label, except those of the inputs
abbrev pub names_under : List ℕ → NetlistOf → List (List ℕ)
names_under label net = input_names net ++ map (λ name. label ++ name) (drop net.circuit.inputs net.names)

-- the netlist with these names
abbrev pub under : List ℕ → NetlistOf → NetlistOf
under label net = record { circuit = net.circuit; names = names_under label net; model = net.model }

-- the latches of parts by names, the first of which has number i; and their nodes
abbrev pub latches_under : List ℕ → ℕ → List PlannedOf → List NamedLatch
latches_under prefix i [] = []
latches_under prefix i (p ∷ parts) = (named_of (under (part_label prefix i) p.net)).latches ++ latches_under prefix (i + 1) parts

abbrev pub nodes_under : List ℕ → ℕ → List PlannedOf → List NamedNode
nodes_under prefix i [] = []
nodes_under prefix i (p ∷ parts) = (named_of (under (part_label prefix i) p.net)).nodes ++ nodes_under prefix (i + 1) parts

-- the names that a part shows: those of its outputs, without its rails
abbrev pub shown_names : List ℕ → PlannedOf → List (List ℕ)
shown_names label p = names_of (names_under label p.net) (take p.plan.outputs p.net.circuit.outputs)

-- the names with those that parts show, each where it wasn't there
abbrev pub shown_from : List ℕ → ℕ → List (List ℕ) → List PlannedOf → List (List ℕ)
shown_from prefix i seen [] = seen
shown_from prefix i seen (p ∷ parts) = shown_from prefix (i + 1) (with_texts seen (shown_names (part_label prefix i) p)) parts

-- the names of a part's rails; and of all rails, pair by pair
abbrev pub rail_pair : List ℕ → PlannedOf → List (List ℕ)
rail_pair label p = text_at (names_under label p.net) p.plan.rail1 ∷ (text_at (names_under label p.net) p.plan.rail2 ∷ [])

abbrev pub rail_names : List ℕ → ℕ → List PlannedOf → List (List ℕ)
rail_names prefix i [] = []
rail_names prefix i (p ∷ parts) = rail_pair (part_label prefix i) p ++ rail_names prefix (i + 1) parts

-- the name of a gate: at a place of the word the word's, else the next one of the tree
abbrev pub gate_name : List (List ℕ) → List ℕ → CheckGate → List ℕ
gate_name word next (gate.Word place) = text_at word place
gate_name word next _ = next

-- the names of gates over the names of a word, where `number` is the number of the tree's next node
abbrev pub gate_names : List ℕ → List (List ℕ) → ℕ → List CheckGate → List (List ℕ)
gate_names prefix word number [] = []
gate_names prefix word number (g ∷ gates) = gate_name word (tree_text prefix number) g ∷ gate_names prefix word (net_behind number g) gates

-- the node of a gate of this name over the names of all gates; none at a place of the word
abbrev pub named_gate : List (List ℕ) → List ℕ → CheckGate → List NamedNode
named_gate names name (gate.Word place) = []
named_gate names name g = record { reads = names_of names (reads_of g); out = name; cover = cover_of g } ∷ []

-- the nodes of gates of these names
abbrev pub named_gates : List (List ℕ) → List (List ℕ) → List CheckGate → List NamedNode
named_gates names own [] = []
named_gates names [] (g ∷ gates) = []
named_gates names (name ∷ own) (g ∷ gates) = named_gate names name g ++ named_gates names own gates

-- the prefix of the joint's names, and the label of each part
abbrev pub prefix_of : List PlannedOf → List ℕ
prefix_of parts = joint_prefix (taken_names parts)

abbrev pub labels_of : List PlannedOf → List (List ℕ)
labels_of parts = map (part_label (prefix_of parts)) (range_with_len 0 (length parts))

-- the names of the tree's gates, and the tree's nodes
abbrev pub tree_names : List PlannedOf → List (List ℕ)
tree_names parts = gate_names (prefix_of parts) (rail_names (prefix_of parts) 0 parts) 0 (tree_made (length parts)).gates

abbrev pub tree_named : List PlannedOf → List NamedNode
tree_named parts = named_gates (tree_names parts) (tree_names parts) (tree_made (length parts)).gates

-- the names of the joint's outputs: what the parts show, and then its two rails
abbrev pub output_names : List PlannedOf → List (List ℕ)
output_names parts =
    shown_from (prefix_of parts) 0 [] parts
    ++ text_at (tree_names parts) (tree_made (length parts)).rail1 ∷ (text_at (tree_names parts) (tree_made (length parts)).rail2 ∷ [])

-- the joint netlist by names
abbrev pub joint_named : List PlannedOf → Named
joint_named parts = record {
  model = codes "joint";
  inputs = joint_inputs parts;
  outputs = output_names parts;
  latches = latches_under (prefix_of parts) 0 parts;
  nodes = nodes_under (prefix_of parts) 0 parts ++ tree_named parts;
}
