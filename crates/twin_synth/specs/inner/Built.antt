-- The parts of a netlist by numbers, as they are made: its names first, and then what it has by these names.
use Rattle.std.specs.Prelude.{ℕ, ◌+◌, List, [], None, take, length}
use Rattle.tsc_net.specs.Named.{Named}
use Rattle.tsc_net.specs.NetlistOf.{NetlistOf, names_of, named_latches, named_nodes}
use Rattle.tsc_net.specs.Parts.{PartsOf}

-- the first names, so many of them, and nothing else
abbrev pub named_to : NetlistOf → ℕ → PartsOf
named_to N names = record {
  names = take names N.names;
  named = record { model = N.model; inputs = []; outputs = []; latches = []; nodes = [] };
  fresh = None;
}

-- so many inputs, latches, nodes and outputs, by name
abbrev pub parts_to : NetlistOf → ℕ → ℕ → ℕ → ℕ → PartsOf
parts_to N inputs latches nodes outputs = record {
  names = N.names;
  named = record {
    model = N.model;
    inputs = take inputs N.names;
    outputs = names_of N.names (take outputs N.circuit.outputs);
    latches = named_latches N.names N.circuit.inputs (take latches N.circuit.latches);
    nodes = named_nodes N.names (N.circuit.inputs + length N.circuit.latches) (take nodes N.circuit.nodes);
  };
  fresh = None;
}
