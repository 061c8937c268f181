use Rattle.table_refinement.proofs.RefinedTables.{refined_tables_allow_less}
use Rattle.table_refinement.proofs.refined.refined_tables_allow_less.Goals as goal

pub returns : goal.returns
returns c = record { less = refined_tables_allow_less }
