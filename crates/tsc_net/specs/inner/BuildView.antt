-- What is seen of a netlist of the code before its nodes are ordered.
use Rattle.std.specs.Prelude.{map}
use Rattle.tsc_net.specs.NetlistOf.{NetlistOf}
use Rattle.tsc_net.specs.NetlistView.{latch_as}
use Rattle.tsc_net.specs.PartsView.{model_or}
use Rattle.tsc_net.specs.PlanView.{net_numbers}
use Rattle.tsc_net.specs.declared.build.Unordered.{Unordered}

abbrev pub unordered_as : Unordered → NetlistOf
unordered_as n = record {
  circuit = record {
    inputs = n.inputs;
    latches = map latch_as n.latches.items;
    nodes = n.nodes;
    outputs = net_numbers n.outputs;
  };
  names = n.names.nets;
  model = model_or n.model;
}
