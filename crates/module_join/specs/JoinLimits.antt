-- The limits of a joint netlist: how many inputs and nodes it has at most, and what refuses parts, in this order.
use Rattle.std.specs.Prelude.{ℕ, ◌+◌, List, length, nat_lt, Bool, IsTrue, IsFalse}
use Rattle.std.specs.List.{sum_by}
use Rattle.code_checkers.specs.Tree.{tree_gates}
use Rattle.module_join.specs.JointNet.{PlannedOf, joint_inputs}
use Rattle.module_join.specs.declared.limits.JoinError.{JoinError}
use Rattle.module_join.specs.declared.limits.JoinError.TheVariants.{TooManyInputs, TooManyNodes, Memory}

-- the nodes of the joint: those of its parts, and of the tree over them, six per cell and two for the rails
abbrev pub joint_nodes : List PlannedOf → ℕ
joint_nodes parts = sum_by (λ (p : PlannedOf). length p.net.circuit.nodes) parts + tree_gates (length parts)

-- the parts' inputs have more than 1,024 different names
abbrev pub has_too_many_inputs : List PlannedOf → Bool
has_too_many_inputs parts = nat_lt 1024 (length (joint_inputs parts))

-- the joint would have more than 1,048,576 nodes
abbrev pub has_too_many_nodes : List PlannedOf → Bool
has_too_many_nodes parts = nat_lt 1048576 (joint_nodes parts)

-- why parts have no joint netlist: too many inputs; else too many nodes; memory may be missing anywhere
abbrev pub RefusesJoin : List PlannedOf → JoinError → Type 0
RefusesJoin parts TooManyInputs = IsTrue (has_too_many_inputs parts)
RefusesJoin parts TooManyNodes = IsFalse (has_too_many_inputs parts) × IsTrue (has_too_many_nodes parts)
RefusesJoin parts (Memory e) = Unit {0}
