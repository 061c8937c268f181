use Rattle.register_synth.proofs.KeptPart.{kept_is_part}
use Rattle.register_synth.proofs.laws.kept_is_a_part.Goals as goal

pub returns : goal.returns
returns c = record { part = kept_is_part }
