-- The names seen so far, with those of the parts that are left, are all.
use Rattle.std.proofs.Common.{◌≡◌, [], drop}
use Rattle.module_join.specs.JoinParts.{parts_as}
use Rattle.joint_text.specs.JointNamed.{prefix_of, shown_from}
use Rattle.joint_text.proofs.names.names_shown.Given as goal

abbrev pub invariant-loop-place : goal.invariant-loop-place
invariant-loop-place l =
    shown_from (prefix_of (parts_as l.parts)) l.place l.names (parts_as (drop l.place l.parts)) ≡ shown_from (prefix_of (parts_as l.parts)) 0 [] (parts_as l.parts)
