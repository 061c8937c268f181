use Rattle.lane_sim.proofs.LaneLemmas.{lanes_fit}
use Rattle.lane_sim.proofs.many_pins.settle_free.Goals as goal

pub free_lanes-lanes-requires : goal.free_lanes-lanes-requires
free_lanes-lanes-requires g c =
    let rows = c.rows_of.ensures in
    (lanes_fit g.row.N c.requires.few, (c.requires.few, (rows.inside, rows.operands c.args.words.now c.args.block.now c.requires.operands)))
