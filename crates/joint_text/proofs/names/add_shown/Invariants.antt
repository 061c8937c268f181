-- The names of the outputs before this one were added.
use Rattle.std.proofs.Common.{◌≡◌, drop}
use Rattle.module_join.specs.JointNet.{with_texts}
use Rattle.module_join.specs.JoinParts.{planned_as}
use Rattle.joint_text.specs.JointNamed.{shown_names}
use Rattle.joint_text.proofs.names.add_shown.Given as goal

abbrev pub invariant-loop-place : goal.invariant-loop-place
invariant-loop-place l =
    with_texts l.names (drop l.place (shown_names l.label (planned_as l.part))) ≡ with_texts l.initial.names (shown_names l.label (planned_as l.part))
