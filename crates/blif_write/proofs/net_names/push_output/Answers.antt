use Rattle.fault_secure.specs.Circuit.{nets}
use Rattle.blif_write.proofs.NetFacts.{number-known}
use Rattle.blif_write.proofs.net_names.push_output.Goals as goal

pub name-requires : goal.name-requires
name-requires c = record {
  net = number-known (nets c.args.net.now.circuit) c.outputs.result.now c.args.net.now.circuit.outputs c.args.place _ c.outputs.ensures.outputs c.requires.within c.requires.checked.closed.outputs;
}
