use Rattle.register_synth.proofs.TwinSecure.{twins_are_checked}
use Rattle.register_synth.proofs.laws.twins_are_checked.Goals as goal

pub returns : goal.returns
returns c = record { checked = twins_are_checked }
