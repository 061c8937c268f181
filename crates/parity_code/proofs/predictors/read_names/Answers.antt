use Rattle.std.proofs.Common.{arith}
use Rattle.net_cones.proofs.OrderWithin.{reads_within}
use Rattle.parity_code.proofs.predictors.read_names.Goals as goal

pub bounds-names-read : goal.bounds-names-read
bounds-names-read c =
    let below = reads_within c.args.net.now.circuit c.args.place c.node_reads-read-items.result.now c.nets-nets.ensures.checked.closed c.requires.within c.node_reads-read-items.ensures.reads c.loop-read.read-index (record { number = 0 }) c.loop-read-test.true in
    omega arith
