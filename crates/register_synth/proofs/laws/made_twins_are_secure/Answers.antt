use Rattle.register_synth.proofs.TwinSecure.{twins_are_made, made_twins_are_secure}
use Rattle.register_synth.proofs.laws.made_twins_are_secure.Goals as goal

pub returns : goal.returns
returns c = record { twins = twins_are_made; secure = made_twins_are_secure }
