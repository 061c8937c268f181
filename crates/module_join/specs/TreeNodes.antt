-- The tree of two-rail cells over the pairs of a word, as nodes of a netlist.
use Rattle.std.specs.Prelude.{◌≡◌, ℕ, ◌<◌, List, [], slice_index}
use Rattle.code_checkers.specs.GateList.{GateList}
use Rattle.code_checkers.specs.Signal.{Signal}
use Rattle.code_checkers.specs.Walk.{walk}
use Rattle.code_checkers.specs.Tree.{tree_rail1, tree_rail2, tree_gates, IsTreeOf}
use Rattle.code_checkers.specs.CheckerNodes.{place_of, gates_of, gate_nets, gate_nodes}
use Rattle.joint_laws.specs.JointCircuit.{TreeOf}
use Rattle.joint_laws.specs.JointCircuitLaws.{IsTree}

-- the nodes of gates over the nets of a word, the first of which drives the net `next`, and the nets of the rails
abbrev pub nodes_of_tree : GateList → List ℕ → ℕ → TreeOf
nodes_of_tree made word next = record {
  nodes = gate_nodes (gate_nets word next made.gates) made.gates;
  rail1 = slice_index (gate_nets word next made.gates) made.rail1;
  rail2 = slice_index (gate_nets word next made.gates) made.rail2;
}

-- the signals of the tree over so many pairs, in the order of the walk
abbrev pub tree_signals : ℕ → List Signal
tree_signals pairs = walk (tree_rail2 pairs) (walk (tree_rail1 pairs) [])

-- and their gates
abbrev pub tree_made : ℕ → GateList
tree_made pairs = record {
  gates = gates_of (tree_signals pairs);
  rail1 = place_of (tree_signals pairs) (tree_rail1 pairs);
  rail2 = place_of (tree_signals pairs) (tree_rail2 pairs);
}

-- as nodes they are a tree over the pairs: six nodes per cell, and two for the rails
abbrev pub TreeNodesDecide : Type 0
TreeNodesDecide = (pairs : ℕ) (made : GateList) → 0 < pairs → IsTreeOf pairs made → IsTree pairs (tree_gates pairs) (nodes_of_tree made)

-- the tree over so many pairs is there
abbrev pub TreeIsMade : Type 0
TreeIsMade = (pairs : ℕ) → IsTreeOf pairs (tree_made pairs)

-- what `tree_of` gives is determined
abbrev pub TreeIsDetermined : Type 0
TreeIsDetermined = (pairs : ℕ) (made : GateList) → IsTreeOf pairs made → made ≡ tree_made pairs
