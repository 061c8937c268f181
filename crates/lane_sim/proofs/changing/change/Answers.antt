use Rattle.lane_sim.specs.Points.{source_bit}
use Rattle.lane_sim.proofs.DifferLemmas.{unchanged_row}
use Rattle.lane_sim.proofs.changing.change.Goals as goal

pub returns-clause-same : goal.returns-clause-same
returns-clause-same c = λ none.
    unchanged_row c.load-before.result c.args.lanes c.differ.result (source_bit c.args.block.now c.args.row) (source_bit c.store.new.block c.args.row)
    c.differ.ensures.lanes c.load-before.ensures.lanes.lanes c.store.ensures.stored (c.is_somewhere.ensures.none none)
