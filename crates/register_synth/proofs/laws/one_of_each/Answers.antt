use Rattle.register_synth.proofs.OneOfEach.{one_is_kept, one_grouping}
use Rattle.register_synth.proofs.laws.one_of_each.Goals as goal

pub returns : goal.returns
returns c = record { kept = one_is_kept; groups = one_grouping }
