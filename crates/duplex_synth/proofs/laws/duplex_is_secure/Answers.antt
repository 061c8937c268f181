use Rattle.duplex_synth.proofs.Secure.{duplex_secure}
use Rattle.duplex_synth.proofs.laws.duplex_is_secure.Goals as goal

pub returns : goal.returns
returns c = record { secure = duplex_secure }
