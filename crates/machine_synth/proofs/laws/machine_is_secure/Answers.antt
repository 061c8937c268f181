use Rattle.machine_synth.proofs.MachineJoin.{self_checking}
use Rattle.machine_synth.proofs.laws.machine_is_secure.Goals as goal

pub returns : goal.returns
returns c = record { secure = self_checking }
