use Rattle.table_refinement.proofs.SmallRefinement.{small_tables_refine}
use Rattle.table_refinement.proofs.refined.small_tables_refine.Goals as goal

pub returns : goal.returns
returns c = record { small = small_tables_refine }
