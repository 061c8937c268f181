-- The lines of the gates before this one were added.
use Rattle.std.proofs.Common.{◌≡◌, ◌++◌, drop}
use Rattle.joint_text.proofs.TreeLines.{lines_from}
use Rattle.joint_text.proofs.tree.push_tree.Given as goal

abbrev pub invariant-loop-place : goal.invariant-loop-place
invariant-loop-place l =
    l.out ++ lines_from l.tree.names (drop l.place l.tree.names) (drop l.place l.tree.gates.gates) ≡ l.initial.out ++ lines_from l.tree.names l.tree.names l.tree.gates.gates
