use Rattle.register_joints.proofs.HeardAlarms.{watches_join, watches_hear_latches}
use Rattle.register_joints.proofs.alarms.part_watches_are_heard.Goals as goal

pub returns : goal.returns
returns c = record { heard = watches_join; latches = watches_hear_latches }
