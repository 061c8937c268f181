use Rattle.std.proofs.Common.{arith}
use Rattle.tsc_pool.proofs.Holding.{out_where_held}
use Rattle.call_tests.proofs.pool.taken_again.Goals as goal

pub words-requires-2 : goal.words-requires-2
words-requires-2 g c = record { out = rw c.get-5.ensures.row (out_where_held c.take_into-4.new.pool c.take_into-4.new.rows.rows 1 c.take_into-4.ensures.those_out (omega arith)) }
