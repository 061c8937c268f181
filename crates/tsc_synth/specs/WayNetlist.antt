-- What a network's netlist is by each way of synthesis.
use Rattle.fault_secure.specs.CodePlan.{CodePlan}
use Rattle.tsc_net.specs.NetlistOf.{NetlistOf}
use Rattle.synth_ways.specs.declared.way.Way.{Way}
use Rattle.synth_ways.specs.declared.way.Way.TheVariants.{Parity, Duplex, Berger, MOutOfN}
use Rattle.unate_synth.specs.UnateNetlist.{IsUnateNetlist}
use Rattle.parity_synth.specs.ParityNet.{IsParityNetlist}
use Rattle.duplex_synth.specs.DuplexNet.{IsDuplexNetlist}

-- the netlist and the plan are those of the network. Under parity, with one copy for each group or one that all share, that is every node
-- of them; under the other codes it is all that the code and the layout ask for
abbrev pub IsNetlistOf : Way → NetlistOf → NetlistOf → CodePlan → Type 0
IsNetlistOf Parity S N P = IsParityNetlist S N P
IsNetlistOf Duplex S N P = IsDuplexNetlist S N P
IsNetlistOf Berger S N P = IsUnateNetlist S N P
IsNetlistOf MOutOfN S N P = IsUnateNetlist S N P
