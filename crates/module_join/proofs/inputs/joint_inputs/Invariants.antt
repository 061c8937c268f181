use Rattle.std.proofs.Common.{◌≡◌, drop}
use Rattle.module_join.specs.JointNet.{inputs_from, joint_inputs}
use Rattle.module_join.specs.JoinParts.{parts_as}
use Rattle.module_join.proofs.inputs.joint_inputs.Given as goal

-- the names seen so far, with those of the parts that are left, are all
abbrev pub invariant-loop-part : goal.invariant-loop-part
invariant-loop-part l = inputs_from l.names (parts_as (drop l.part-index l.parts)) ≡ joint_inputs (parts_as l.parts)
