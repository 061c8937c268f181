use Rattle.std.proofs.Common.{arith}
use Rattle.lane_rows.proofs.OrderFacts.{reads_within}
use Rattle.mapping_audit.proofs.shared.least_shared.Goals as goal

pub least_other-requires-clause-within : goal.least_other-requires-clause-within
least_other-requires-clause-within c = λ k d h.
    (let b = reads_within c.args.mapped.now.circuit c.nets.ensures.checked.closed c.args.gate c.requires.gate c.node_reads.result.now c.node_reads.ensures.reads k d h in
    let s = c.requires.blocks in omega arith)
