use Rattle.std.proofs.Common.{arith}
use Rattle.lane_rows.proofs.OrderFacts.{reads_within}
use Rattle.fault_lanes.proofs.SettleLemmas.{free_pair}
use Rattle.fault_lanes.proofs.settling.settle_free.Goals as goal

pub cover_lanes-lanes-requires-clause-within : goal.cover_lanes-lanes-requires-clause-within
cover_lanes-lanes-requires-clause-within c = λ k d h.
    (let b = reads_within c.args.net.now.circuit c.nets-nets.ensures.checked.closed c.args.place c.requires.place c.node_reads-reads.result.now c.node_reads-reads.ensures.reads k d h in
    let s = c.requires.words in omega arith)

pub returns-then-reads-le2-clause-here : goal.returns-then-reads-le2-clause-here
returns-then-reads-le2-clause-here c = λ lane inside.
    free_pair c.args.net.now.circuit c.args.place c.index.result.now c.row_or-first.result c.row_or-second.result c.node_net-to.result.number lane c.args.words.now c.settle_pair.new.words
    c.args.ready.now.tables.items c.node_reads-reads.result.now c.nets-nets.ensures.checked.closed c.requires.place c.node_reads-reads.ensures.reads c.if-reads-le2.true c.requires.ready.tables
    c.index.ensures c.row_or-first.ensures.row c.row_or-second.ensures.row c.node_net-to.ensures.net (c.settle_pair.ensures.here lane inside)
