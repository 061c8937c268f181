use Rattle.std.proofs.Common.{◌≡◌, drop}
use Rattle.module_join.specs.JointNet.{joint_clock}
use Rattle.module_join.specs.JoinParts.{parts_as}
use Rattle.module_join.proofs.clocks.joint_clock.Given as goal

-- the clock of the parts that are left is that of all
abbrev pub invariant-loop-part : goal.invariant-loop-part
invariant-loop-part l = joint_clock (parts_as (drop l.part-index l.parts)) ≡ joint_clock (parts_as l.parts)
