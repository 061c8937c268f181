use Rattle.duplex_synth.proofs.OneGroup.{one_group}
use Rattle.duplex_synth.proofs.laws.one_group_is_parity.Goals as goal

pub returns : goal.returns
returns c = record { parity = one_group }
