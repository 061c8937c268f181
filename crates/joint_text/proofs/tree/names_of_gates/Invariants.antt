-- The names so far, with those of the gates that are left, are all; and no gate has a number beyond its place.
use Rattle.std.proofs.Common.{◌≡◌, ◌≤◌, ◌++◌, drop}
use Rattle.joint_text.specs.JointNamed.{gate_names}
use Rattle.joint_text.proofs.tree.names_of_gates.Given as goal

abbrev pub invariant-loop-place : goal.invariant-loop-place
invariant-loop-place l =
    (l.names ++ gate_names l.prefix l.rails l.number (drop l.place l.gates.gates) ≡ gate_names l.prefix l.rails 0 l.gates.gates) × (l.number ≤ l.place)
