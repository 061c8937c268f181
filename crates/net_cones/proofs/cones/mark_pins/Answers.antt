use Rattle.std.proofs.Common.{arith}
use Rattle.net_cones.proofs.OrderWithin.{reads_within}
use Rattle.net_cones.proofs.cones.mark_pins.Goals as goal

pub mark_drivers-requires : goal.mark_drivers-requires
mark_drivers-requires c = record {
  within = λ k d h.
      (let b = reads_within c.args.net.now.circuit c.args.place c.node_reads-reads.result.now c.nets-nets.ensures.checked.closed c.requires.place c.node_reads-reads.ensures.reads k d h in omega arith);
}
