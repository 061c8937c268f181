-- What is seen of a netlist by the numbers of its nets, as it is collected.
use Rattle.std.specs.Prelude.{ℕ, Bool, List, [], ◌∷◌, ◌++◌}
use Rattle.tsc_cover.specs.Cover.{CoverTable}
use Rattle.fault_secure.specs.Circuit.{LatchOf, NodeOf}
use Rattle.tsc_net.specs.NetlistOf.{NetlistOf}
use Rattle.twin_synth.specs.declared.numbered.NumberedLatch.TheInside.{Inside as LatchInside}
use Rattle.twin_synth.specs.declared.numbered.NumberedNode.TheInside.{Inside as NodeInside}
use Rattle.twin_synth.specs.declared.numbered.Numbered.TheInside.{Inside}

-- a latch, and a node
abbrev pub latch_in : LatchInside → LatchOf
latch_in l = record { reads = l.reads; init = l.init }

abbrev pub node_in : NodeInside → NodeOf
node_in n = record { reads = n.reads; cover = n.cover }

-- the netlist
abbrev pub numbered_in : Inside → NetlistOf
numbered_in n = record {
  circuit = record { inputs = n.inputs; latches = n.latches; nodes = n.nodes; outputs = n.outputs };
  names = n.names;
  model = n.model;
}
