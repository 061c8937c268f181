use Rattle.std.proofs.Common.{arith}
use Rattle.tsc_pool.proofs.Counts.{len-rows_out}
use Rattle.tsc_pool.proofs.pool.Pool.free.Goals as goal

pub returns-clause-rows : goal.returns-clause-rows
returns-clause-rows c = rw (← c.self.view_is) (omega (arith, len-rows_out _ c.self.invariant.0, c.self.inside.free.ok.0, c.len.ensures))
