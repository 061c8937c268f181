use Rattle.blif_write.proofs.Ends.{ends_in-last}
use Rattle.joint_text.proofs.words.ends_in_slash.Goals as goal

pub returns-in-Some : goal.returns-in-Some
returns-in-Some c = record { slash = ends_in-last 92 c.args.bytes.now c.in-Some.last.now c.in-Some.ensures.value }
