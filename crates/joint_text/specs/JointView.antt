-- What is seen of a joint, and what it keeps.
use Rattle.std.specs.Prelude.{◌≡◌, List}
use Rattle.module_join.specs.JointNet.{PlannedOf}
use Rattle.module_join.specs.JoinParts.{parts_as}
use Rattle.joint_text.specs.JointNamed.{labels_of}
use Rattle.joint_text.specs.Portions.{head_text, tail_text}
use Rattle.joint_text.specs.JointTextLaws.{AreJoinable}
use Rattle.joint_text.specs.declared.joint.Joint.TheInside.{Inside}

-- the parts
abbrev pub joint_as : Inside → List PlannedOf
joint_as j = parts_as j.parts

-- the parts are joinable, and the labels and the texts around them are theirs
pub record KeepsJoint (j : Inside) : Type 0 where
  pub joinable : AreJoinable (parts_as j.parts)
  pub labels : j.labels ≡ labels_of (parts_as j.parts)
  pub head : j.ends.head ≡ head_text (parts_as j.parts)
  pub tail : j.ends.tail ≡ tail_text (parts_as j.parts)
