use Rattle.std.proofs.Common.{arith}
use Rattle.net_cones.proofs.OrderWithin.{reads_within}
use Rattle.structure_audit.proofs.lines.hand_on.Goals as goal

pub add_all_lines-requires : goal.add_all_lines-requires
add_all_lines-requires c = record {
  within = λ k d h.
      (let b = reads_within c.args.net.now.circuit c.args.place c.node_reads.result.now c.nets-nets.ensures.checked.closed c.requires.place c.node_reads.ensures.reads k d h in omega arith);
}
