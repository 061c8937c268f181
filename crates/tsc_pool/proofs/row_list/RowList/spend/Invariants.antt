use Rattle.std.proofs.Common.{length}
use Rattle.tsc_pool.proofs.row_list.RowList.spend.Given as goal

abbrev pub decreases-loop-row : goal.decreases-loop-row
decreases-loop-row l = length l.self.rows
