use Rattle.unate_synth.proofs.UnateJoin.{self_checking}
use Rattle.unate_synth.proofs.laws.unate_is_secure.Goals as goal

pub returns : goal.returns
returns c = record { secure = self_checking }
