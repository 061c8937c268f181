-- Netlists by the numbers of their nets, as they are collected.
use Rattle.std.specs.Prelude.{ℕ, List, [], ◌∷◌, ◌++◌}
use Rattle.fault_secure.specs.Circuit.{LatchOf, NodeOf}
use Rattle.tsc_net.specs.NetlistOf.{NetlistOf}

-- no latch, node, output or name yet
abbrev pub no_net : ℕ → List ℕ → NetlistOf
no_net inputs model = record {
  circuit = record { inputs = inputs; latches = []; nodes = []; outputs = [] };
  names = [];
  model = model;
}

-- the netlist with some more latches, nodes, outputs or names
abbrev pub more_latches : NetlistOf → List LatchOf → NetlistOf
more_latches N latches = let C = N.circuit in record N { circuit = record C { latches = C.latches ++ latches } }

abbrev pub more_nodes : NetlistOf → List NodeOf → NetlistOf
more_nodes N nodes = let C = N.circuit in record N { circuit = record C { nodes = C.nodes ++ nodes } }

abbrev pub more_outputs : NetlistOf → List ℕ → NetlistOf
more_outputs N outputs = let C = N.circuit in record N { circuit = record C { outputs = C.outputs ++ outputs } }

abbrev pub more_names : NetlistOf → List (List ℕ) → NetlistOf
more_names N names = record N { names = N.names ++ names }
