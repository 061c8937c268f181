use Rattle.std.proofs.lemmas.Simd.{length-put_chunk}
use Rattle.lane_sim.proofs.LaneLemmas.{written_lanes, other_lanes}
use Rattle.lane_sim.proofs.lanes.store.Goals as goal

pub returns : goal.returns
returns g c = record {
  stored = written_lanes c.args.block.now c.args.lanes c.args.row g.row.N c.requires.few c.requires.room c.fits-lanes.0;
  others = other_lanes c.args.block.now c.args.lanes c.args.row g.row.N c.requires.few c.requires.room c.fits-lanes.0;
  sized = length-put_chunk _ _ _;
}
