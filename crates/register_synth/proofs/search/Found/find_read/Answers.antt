use Rattle.std.proofs.Common.{◌+◌, ◌-◌, arith}
use Rattle.net_cones.proofs.OrderWithin.{reads_within}
use Rattle.register_synth.proofs.search.Found.find_read.Goals as goal

pub find_all-requires-2 : goal.find_all-requires-2
find_all-requires-2 c = record {
  within = λ k d h. (
      let b = reads_within c.args.net.now.circuit (c.args.given.number - (c.inputs-inputs.result + c.latches.result)) c.node_reads.result.now c.nets-nets.ensures.checked.closed
      (omega (arith, c.requires.within, c.inputs-inputs.ensures.count, c.latches.ensures.count, c.if-number-first.false)) c.node_reads.ensures.reads k d h in
      omega (arith, b, c.requires.sized));
}
