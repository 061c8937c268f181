use Rattle.std.proofs.Common.{arith}
use Rattle.lane_rows.proofs.OrderFacts.{reads_within}
use Rattle.mapping_audit.proofs.blocks.lead.Goals as goal

pub lead_all-requires-clause-within : goal.lead_all-requires-clause-within
lead_all-requires-clause-within c = λ k d h.
    (let b = reads_within c.args.mapped.now.circuit c.nets.ensures.checked.closed c.args.gate c.requires.gate c.node_reads.result.now c.node_reads.ensures.reads k d h in
    let s = c.requires.sized in omega arith)
