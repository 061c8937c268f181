use Rattle.std.proofs.Common.{◌≡◌, ◌+◌, length}
use Rattle.tsc_pool.specs.Pool.{AreThoseOut, IsWhole}
use Rattle.lane_sim.proofs.row_block.take_all.Given as goal

abbrev pub invariant-loop-row : goal.invariant-loop-row
invariant-loop-row l = record {
  whole : IsWhole l.pool;
  width : l.pool.width ≡ 16;
  free : length l.pool.free + l._row ≡ l.count;
  out : AreThoseOut l.pool l.held.rows;
  rows : l.pool.rows ≡ l.count;
  room : l.held.room ≡ l.count;
  len : length l.held.rows ≡ l._row;
}
