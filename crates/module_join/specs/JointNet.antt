-- The joint netlist of netlists with their plans: its inputs by name, its clock, the names of its nets, its circuit.
use Rattle.std.specs.Prelude.{ℕ, ◌+◌, List, [], ◌∷◌, ◌++◌, map, take, drop, length, codes, Option, None, Some}
use Rattle.std.specs.Fmt.{decimal}
use Rattle.std.specs.List.{range_with_len}
use Rattle.fault_secure.specs.CodePlan.{CodePlan}
use Rattle.tsc_net.specs.Names.{with_text, place_of_text}
use Rattle.tsc_net.specs.NetlistOf.{NetlistOf}
use Rattle.tsc_net.specs.Parts.{lettered_prefix, free_number_under}
use Rattle.blif_read.specs.declared.clocks.Clock.{Clock}
use Rattle.code_checkers.specs.Tree.{tree_gates}
use Rattle.joint_laws.specs.Joint.{JointOf}
use Rattle.joint_laws.specs.JointCircuit.{MemberOf, joint_of}
use Rattle.module_join.specs.TreeNodes.{nodes_of_tree, tree_made}

-- a netlist with its plan, and the clock of its latches, where their lines have one
pub record PlannedOf : Type 0 where
  pub net : NetlistOf
  pub plan : CodePlan
  pub clock : Option Clock

-- the names of a netlist's inputs
abbrev pub input_names : NetlistOf → List (List ℕ)
input_names net = take net.circuit.inputs net.names

-- the texts after others, each where it wasn't there
abbrev pub with_texts : List (List ℕ) → List (List ℕ) → List (List ℕ)
with_texts seen [] = seen
with_texts seen (text ∷ texts) = with_texts (with_text seen text) texts

-- the names of all inputs, each once, in the order in which they were first seen
abbrev pub inputs_from : List (List ℕ) → List PlannedOf → List (List ℕ)
inputs_from seen [] = seen
inputs_from seen (p ∷ parts) = inputs_from (with_texts seen (input_names p.net)) parts

-- the names of the joint's inputs: those of all parts, each once, in the order in which they are first seen
abbrev pub joint_inputs : List PlannedOf → List (List ℕ)
joint_inputs parts = inputs_from [] parts

-- the first clock, where there is one, else the second
abbrev pub clock_or : Option Clock → Option Clock → Option Clock
clock_or None later = later
clock_or (Some clock) later = Some clock

-- the clock of a joint: that of the first part that has one
abbrev pub joint_clock : List PlannedOf → Option Clock
joint_clock [] = None
joint_clock (p ∷ parts) = clock_or p.clock (joint_clock parts)

-- the names, and after them the control of a clock, where there is a clock and its control isn't among them
abbrev pub with_control : List (List ℕ) → Option Clock → List (List ℕ)
with_control names None = names
with_control names (Some clock) = with_text names clock.control

-- the names that are taken before the joint names a net: those of its inputs, and the control of its clock
abbrev pub taken_names : List PlannedOf → List (List ℕ)
taken_names parts = with_control (joint_inputs parts) (joint_clock parts)

-- what the names of all nets except the inputs begin with: `p`, the least number with which none of the names that are taken begins so, and `_`
abbrev pub joint_prefix : List (List ℕ) → List ℕ
joint_prefix taken = lettered_prefix 112 (free_number_under 112 taken)

-- the name of a net NAME of part number i, and of node number k of the tree
abbrev pub own_text : List ℕ → ℕ → List ℕ → List ℕ
own_text prefix i name = prefix ++ (decimal i ++ 95 ∷ name)

-- the name of node number k of the tree
abbrev pub tree_text : List ℕ → ℕ → List ℕ
tree_text prefix k = prefix ++ 116 ∷ decimal k

-- the names of a netlist's latches, and of its nodes
abbrev pub latch_names : PlannedOf → List (List ℕ)
latch_names p = take (length p.net.circuit.latches) (drop p.net.circuit.inputs p.net.names)

-- the names of a netlist's nodes
abbrev pub node_names : PlannedOf → List (List ℕ)
node_names p = drop (p.net.circuit.inputs + length p.net.circuit.latches) p.net.names

-- such names of all parts, the first of which has this number, as they stand in the joint
abbrev pub own_texts : List ℕ → (PlannedOf → List (List ℕ)) → ℕ → List PlannedOf → List (List ℕ)
own_texts prefix names i [] = []
own_texts prefix names i (p ∷ parts) = map (own_text prefix i) (names p) ++ own_texts prefix names (i + 1) parts

-- a part of the joint: each of its inputs is the input of that name
abbrev pub member : List (List ℕ) → PlannedOf → MemberOf
member inputs p = record { circuit = p.net.circuit; plan = p.plan; inputs = map (place_of_text inputs) (input_names p.net) }

-- the joint circuit, with its parts and its rails
abbrev pub joint : List PlannedOf → JointOf
joint parts =
    let inputs = joint_inputs parts in
    joint_of (length inputs) (map (member inputs) parts) (tree_gates (length parts)) (nodes_of_tree (tree_made (length parts)))

-- the joint netlist: the inputs, then the latches of all parts, their nodes, and the nodes of the tree
abbrev pub joint_netlist : List PlannedOf → NetlistOf
joint_netlist parts =
    let inputs = joint_inputs parts in
    let prefix = joint_prefix (taken_names parts) in
    record {
      circuit = (joint parts).circuit;
      names = inputs ++ (own_texts prefix latch_names 0 parts ++ (own_texts prefix node_names 0 parts ++ map (tree_text prefix) (range_with_len 0 (tree_gates (length parts)))));
      model = codes "joint";
    }
