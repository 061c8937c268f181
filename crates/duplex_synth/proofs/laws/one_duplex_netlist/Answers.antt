use Rattle.duplex_synth.proofs.Secure.{one_netlist}
use Rattle.duplex_synth.proofs.laws.one_duplex_netlist.Goals as goal

pub returns : goal.returns
returns c = record { one = one_netlist }
