use Rattle.register_synth.proofs.PartGroups.{groups_apart_in_part}
use Rattle.register_synth.proofs.laws.groups_are_apart.Goals as goal

pub returns : goal.returns
returns c = record { apart = groups_apart_in_part }
