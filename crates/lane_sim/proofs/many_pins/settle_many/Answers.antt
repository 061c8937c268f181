use Rattle.std.proofs.Common.{◌∙◌}
use Rattle.tsc_net.specs.Fault.{stuck_at_or_none}
use Rattle.lane_sim.specs.FlatRows.{rows_in}
use Rattle.lane_sim.proofs.KernelLemmas.{gate_free}
use Rattle.lane_sim.proofs.LaneLemmas.{lanes_fit}
use Rattle.lane_sim.proofs.many_pins.settle_many.Goals as goal

pub returns-then-is_elsewhere-clause-here : goal.returns-then-is_elsewhere-clause-here
returns-then-is_elsewhere-clause-here g c = λ p inside.
    c.settle_free.ensures.here p inside
    ∙ gate_free c.args.driver c.args.first (stuck_at_or_none c.args.fault) c.args.words.now c.args.block.now p c.requires.sources
    (c.is_elsewhere.ensures.elsewhere c.if-is_elsewhere.true) c.args.gate.on (rows_in c.args.flat.now c.args.gate.place) c.requires.operands

pub held_lanes-lanes-requires : goal.held_lanes-lanes-requires
held_lanes-lanes-requires g c =
    let rows = c.rows_of.ensures in
    (lanes_fit g.row.N c.requires.few, (c.requires.few, (rows.inside, rows.operands c.args.words.now c.args.block.now c.requires.operands)))
