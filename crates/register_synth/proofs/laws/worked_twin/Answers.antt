use Rattle.std.proofs.Common.{refl}
use Rattle.register_synth.proofs.WorkedKept.{worked_kept, worked_are_groups}
use Rattle.register_synth.proofs.laws.worked_twin.Goals as goal

pub returns : goal.returns
returns c = record { kept = worked_kept; part = refl; groups = worked_are_groups; latches = refl; nodes = refl; checks = refl }
