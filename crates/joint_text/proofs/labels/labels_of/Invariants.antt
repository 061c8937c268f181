-- The labels of the parts before this one.
use Rattle.std.proofs.Common.{◌≡◌, map}
use Rattle.std.specs.List.{range_with_len}
use Rattle.joint_text.specs.JointNamed.{part_label}
use Rattle.joint_text.proofs.labels.labels_of.Given as goal

abbrev pub invariant-loop-part : goal.invariant-loop-part
invariant-loop-part l = l.labels ≡ map (part_label l.prefix) (range_with_len 0 l.part)
