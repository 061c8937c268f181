use Rattle.tsc_pool.proofs.Entries.{get-rows_out}
use Rattle.tsc_pool.proofs.laws.entries_are_rows_out.Goals as goal

pub returns : goal.returns
returns c = record { entries = get-rows_out }
