-- What is seen of a netlist of the code, and what it keeps.
use Rattle.std.specs.Prelude.{◌≡◌, map}
use Rattle.fault_secure.specs.Circuit.{LatchOf}
use Rattle.tsc_net.specs.NetlistOf.{NetlistOf, IsBuilt}
use Rattle.tsc_net.specs.Order.{fan_ins, evaluation_order, IsOrder}
use Rattle.tsc_net.specs.PartsView.{model_or}
use Rattle.tsc_net.specs.PlanView.{net_numbers}
use Rattle.tsc_net.specs.declared.netlist.Latch.{Latch}
use Rattle.tsc_net.specs.declared.netlist.Netlist.TheInside.{Inside}

abbrev pub latch_as : Latch → LatchOf
latch_as l = record { reads = l.reads.number; init = l.init }

abbrev pub netlist_as : Inside → NetlistOf
netlist_as n = record {
  circuit = record {
    inputs = n.inputs;
    latches = map latch_as n.latches.items;
    nodes = n.nodes;
    outputs = net_numbers n.outputs;
  };
  names = n.names;
  model = model_or n.model;
}

-- the netlist is checked, and its order is kept
pub record KeepsOrder (n : Inside) : Type 0 where
  pub checked : IsBuilt (netlist_as n)
  pub order : n.order.items ≡ evaluation_order (fan_ins (netlist_as n).circuit)
  pub whole : IsOrder (fan_ins (netlist_as n).circuit) n.order.items
