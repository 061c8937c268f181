-- The latches so far, then those of the parts that are left; the search for a missing name goes on from here.
use Rattle.std.proofs.Common.{◌≡◌, ◌++◌, drop, map}
use Rattle.tsc_net.specs.inner.Build.{latch_reads}
use Rattle.tsc_net.specs.NetlistOf.{numbered_latch}
use Rattle.tsc_net.specs.NetFault.{first_missing}
use Rattle.tsc_net.specs.NetlistView.{latch_as}
use Rattle.tsc_net.specs.PartsView.{latch_of}
use Rattle.tsc_net.proofs.build.latches_of.Given as goal

abbrev pub invariant-loop-part : goal.invariant-loop-part
invariant-loop-part l = record {
  reading : map latch_as l.latches.items ++ map (numbered_latch l.names.nets) (map (latch_of l.names.names) (drop l.part-index l.parts))
      ≡ map (numbered_latch l.names.nets) (map (latch_of l.names.names) l.parts);
  missing : first_missing l.names.nets (latch_reads (map (latch_of l.names.names) (drop l.part-index l.parts)))
      ≡ first_missing l.names.nets (latch_reads (map (latch_of l.names.names) l.parts));
}
