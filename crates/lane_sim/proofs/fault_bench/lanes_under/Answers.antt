use Rattle.std.proofs.Common.{◌≡◌, ◌-◌, ◌∙◌, true, sym, ap, subst, arith}
use Rattle.fault_secure.specs.StuckAt.{on_stem}
use Rattle.fault_secure.specs.Circuit.{node_net}
use Rattle.tsc_net.specs.Fault.{stuck_at_or_none}
use Rattle.tsc_net.specs.Order.{has_place}
use Rattle.lane_rows.specs.Alive.{source_count}
use Rattle.lane_sim.specs.Points.{source_bit}
use Rattle.lane_sim.proofs.AlongLemmas.{settles_at}
use Rattle.lane_sim.proofs.FaultBenchLemmas.{row_of_node, lone_row}
use Rattle.lane_sim.proofs.fault_bench.lanes_under.Goals as goal

pub row-requires : goal.row-requires
row-requires c =
    let program = c.args.program.now in
    let net = c.args.net.number in
    let j = net - source_count program.circuit in
    let is : node_net program.circuit j ≡ net = omega (arith, c.first_node.ensures.first, c.if-at-first_node.false) in
    record { watched = subst (λ n. has_place program.watched n ≡ true) is (c.requires.watches j (omega (arith, c.first_node.ensures.first, c.if-at-first_node.false, c.requires.net))) }

pub returns-then-at-first_node-clause-lanes : goal.returns-then-at-first_node-clause-lanes
returns-then-at-first_node-clause-lanes c = λ p v below settles.
    let f = stuck_at_or_none c.args.fault in
    let net = c.args.net.number in
    c.at_stem.ensures.lanes.lanes p below
    ∙ ap (on_stem f net) (c.load.ensures.lanes.lanes p below ∙ ap (λ words. source_bit words net p) c.words.ensures.words)
    ∙ sym ((settles_at c.args.program.now.circuit f c.args.points.now p v c.requires.points settles).sources net (omega (arith, c.first_node.ensures.first, c.if-at-first_node.true)))

pub returns-clause-lanes : goal.returns-clause-lanes
returns-clause-lanes c = λ p v below settles.
    let program = c.args.program.now in
    let net = c.args.net.number in
    let block = c.args.block.now in
    c.load-2.ensures.lanes.lanes p below
    ∙ ap (λ words. source_bit words 0 p) c.row-2.ensures.words
    ∙ lone_row block c.row.result p below
    ∙ ap (λ row. source_bit block row p) c.row.ensures.row
    ∙ row_of_node program (stuck_at_or_none c.args.fault) c.args.points.now block c.first_node.ensures.whole c.requires.held net (omega (arith, c.first_node.ensures.first, c.if-at-first_node.false)) c.requires.net p v below settles
