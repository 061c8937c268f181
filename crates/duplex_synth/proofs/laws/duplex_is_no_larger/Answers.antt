use Rattle.duplex_synth.proofs.Smaller.{no_larger}
use Rattle.duplex_synth.proofs.laws.duplex_is_no_larger.Goals as goal

pub returns : goal.returns
returns c = record { smaller = no_larger }
