-- The nodes so far, then those of the parts that are left; the search for a missing name goes on from here.
use Rattle.std.proofs.Common.{◌≡◌, ◌++◌, drop, length, map}
use Rattle.tsc_net.specs.inner.Build.{node_reads}
use Rattle.tsc_net.specs.NetlistOf.{numbered_node}
use Rattle.tsc_net.specs.NetFault.{first_missing}
use Rattle.tsc_net.specs.PartsView.{node_of}
use Rattle.tsc_net.proofs.build.nodes_of.Given as goal

abbrev pub invariant-loop-part : goal.invariant-loop-part
invariant-loop-part l = record {
  reading : l.nodes ++ map (numbered_node l.names.nets) (map (node_of l.names.names) (drop (length l.yielded) l.fn.parts.items))
      ≡ map (numbered_node l.names.nets) (map (node_of l.names.names) l.fn.parts.items);
  missing : first_missing l.names.nets (node_reads (map (node_of l.names.names) (drop (length l.yielded) l.fn.parts.items)))
      ≡ first_missing l.names.nets (node_reads (map (node_of l.names.names) l.fn.parts.items));
}
