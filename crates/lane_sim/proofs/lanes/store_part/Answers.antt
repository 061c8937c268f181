use Rattle.std.proofs.lemmas.Simd.{length-put_chunk}
use Rattle.lane_sim.proofs.LaneLemmas.{written_from, rows_beside, before_from, behind_from}
use Rattle.lane_sim.proofs.lanes.store_part.Goals as goal

pub returns : goal.returns
returns g c = record {
  stored = written_from c.args.block.now c.args.lanes c.args.start c.args.from g.row.N c.requires.few c.requires.start c.requires.room c.fits-lanes.0;
  others = rows_beside c.args.block.now c.args.lanes c.args.start c.args.from g.row.N c.requires.few c.requires.start c.requires.room c.fits-lanes.0;
  before = before_from c.args.block.now c.args.lanes c.args.start c.args.from g.row.N c.requires.few c.requires.start c.requires.room c.fits-lanes.0;
  behind = behind_from c.args.block.now c.args.lanes c.args.start c.args.from g.row.N c.requires.few c.requires.start c.requires.room c.fits-lanes.0;
  sized = length-put_chunk _ _ _;
}
