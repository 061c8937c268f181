-- The text of the joint netlist of parts.
use Rattle.std.specs.Prelude.{ℕ, List, []}
use Rattle.blif_write.specs.Layout.{clocked_text}
use Rattle.blif_write.specs.RegisterText.{clock_words}
use Rattle.module_join.specs.JointNet.{PlannedOf, joint_clock, joint_netlist}

-- the text of the joint netlist of parts, without plan lines, and with the words of the joint's clock in the lines of latches
abbrev pub joint_bytes : List PlannedOf → List ℕ
joint_bytes parts = clocked_text (clock_words (joint_clock parts)) (joint_netlist parts) []
