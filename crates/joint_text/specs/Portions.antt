-- The text of the joint in four portions: what stands before the first part, the latches of the parts, their nodes, and the tree.
use Rattle.std.specs.Prelude.{ℕ, List, [], ◌∷◌, ◌++◌, map, codes}
use Rattle.std.specs.List.{flat_map}
use Rattle.tsc_text.specs.Written.{text_of}
use Rattle.blif_write.specs.Layout.{model_line, inputs_line, outputs_line, clocked_latch_line, node_lines, end_line}
use Rattle.module_join.specs.JointNet.{PlannedOf, joint_inputs}
use Rattle.joint_text.specs.JointNamed.{latches_under, nodes_under, tree_named, output_names}

-- the lines of the model, the inputs and the outputs
abbrev pub head_text : List PlannedOf → List ℕ
head_text parts = text_of (model_line (codes "joint") ∷ inputs_line (joint_inputs parts) ∷ outputs_line (output_names parts) ∷ [])

-- the lines of the latches of parts, the first of which has number i, with the words of a clock
abbrev pub latches_text : List (List ℕ) → List ℕ → ℕ → List PlannedOf → List ℕ
latches_text clock prefix i parts = text_of (map (clocked_latch_line clock) (latches_under prefix i parts))

-- the lines of their nodes
abbrev pub nodes_text : List ℕ → ℕ → List PlannedOf → List ℕ
nodes_text prefix i parts = text_of (flat_map node_lines (nodes_under prefix i parts))

-- the lines of the tree, and the last one
abbrev pub tail_text : List PlannedOf → List ℕ
tail_text parts = text_of (flat_map node_lines (tree_named parts)) ++ text_of (end_line ∷ [])
