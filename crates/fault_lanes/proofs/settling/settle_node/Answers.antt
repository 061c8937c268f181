use Rattle.std.proofs.Common.{◌≡◌, false, ◌∙◌, subst}
use Rattle.lane_sim.specs.Again.{is_at}
use Rattle.fault_lanes.specs.Batch.{lane_fault}
use Rattle.fault_lanes.proofs.SettleLemmas.{made_free}
use Rattle.fault_lanes.proofs.settling.settle_node.Goals as goal

pub returns-then-is_free-clause-here : goal.returns-then-is_free-clause-here
returns-then-is_free-clause-here c = λ lane inside.
    c.settle_free.ensures.here lane inside
    ∙ made_free c.args.net.now.circuit (lane_fault c.args.chains.now.faults.items lane) c.args.words.now lane c.args.place
    (subst (λ n. is_at (lane_fault c.args.chains.now.faults.items lane) n ≡ false) c.node_net-driver.ensures.net (c.is_free.ensures.free c.if-is_free.true lane inside))
