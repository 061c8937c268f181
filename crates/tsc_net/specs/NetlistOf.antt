-- A checked netlist: a circuit and the names of its nets. What it says by names, and what its numbers keep.
use Rattle.std.specs.Prelude.{◌≡◌, ℕ, ◌+◌, ◌<◌, ◌^◌, List, [], ◌∷◌, ◌++◌, length, map, take}
use Rattle.fault_secure.specs.Circuit.{Circuit, LatchOf, NodeOf, nets}
use Rattle.fault_secure.specs.Closed.{IsClosed}
use Rattle.fault_secure.specs.Settle.{Acyclic}
use Rattle.tsc_net.specs.Named.{Named, NamedLatch, NamedNode, latch_outs, node_outs}
use Rattle.tsc_net.specs.Names.{text_at, place_of_text, IsNumbering}

-- the circuit, the name of each net, and the name of the model
pub record NetlistOf : Type 0 where
  pub circuit : Circuit
  pub names : List (List ℕ)
  pub model : List ℕ

-- the names of nets
abbrev pub names_of : List (List ℕ) → List ℕ → List (List ℕ)
names_of names list = map (text_at names) list

-- the latches by names, the first one giving the net `at`
abbrev pub named_latches : List (List ℕ) → ℕ → List LatchOf → List NamedLatch
named_latches names at [] = []
named_latches names at (l ∷ latches) =
    record { reads = text_at names l.reads; out = text_at names at; init = l.init } ∷ named_latches names (at + 1) latches

-- the nodes by names, the first one driving the net `at`
abbrev pub named_nodes : List (List ℕ) → ℕ → List NodeOf → List NamedNode
named_nodes names at [] = []
named_nodes names at (n ∷ nodes) =
    record { reads = names_of names n.reads; out = text_at names at; cover = n.cover } ∷ named_nodes names (at + 1) nodes

-- the netlist by names
abbrev pub named_of : NetlistOf → Named
named_of net =
    let C = net.circuit in
    record {
      model = net.model;
      inputs = take C.inputs net.names;
      outputs = names_of net.names C.outputs;
      latches = named_latches net.names C.inputs C.latches;
      nodes = named_nodes net.names (C.inputs + length C.latches) C.nodes;
    }

-- what is driven, in the order of nets: the inputs, what the latches give, what the nodes drive
abbrev pub drivers : Named → List (List ℕ)
drivers N = (N.inputs ++ latch_outs N) ++ node_outs N

-- a latch and a node with each net by its place among what is driven
abbrev pub numbered_latch : List (List ℕ) → NamedLatch → LatchOf
numbered_latch driven l = record { reads = place_of_text driven l.reads; init = l.init }

-- a node with each net by its place among what is driven
abbrev pub numbered_node : List (List ℕ) → NamedNode → NodeOf
numbered_node driven n = record { reads = map (place_of_text driven) n.reads; cover = n.cover }

-- the circuit of a netlist by names: the number of a net is the place of its name among what is driven
abbrev pub circuit_of : Named → Circuit
circuit_of N = record {
  inputs = length N.inputs;
  latches = map (numbered_latch (drivers N)) N.latches;
  nodes = map (numbered_node (drivers N)) N.nodes;
  outputs = map (place_of_text (drivers N)) N.outputs;
}

-- the netlist of a netlist by names
abbrev pub netlist_of : Named → NetlistOf
netlist_of N = record { circuit = circuit_of N; names = drivers N; model = N.model }

-- what is kept of a netlist that was built: its circuit is closed and has no ring, and different nets have different names
pub record IsBuilt (net : NetlistOf) : Type 0 where
  pub closed : IsClosed net.circuit
  pub acyclic : Acyclic net.circuit
  pub sized : length net.names ≡ nets net.circuit
  pub numbering : IsNumbering net.names
  pub few : nets net.circuit < 2 ^ 32
