use Rattle.table_refinement.proofs.UnfreedTables.{type_f_frees_nothing}
use Rattle.table_refinement.proofs.unfreed.type_f_frees_nothing.Goals as goal

pub returns : goal.returns
returns c = record { unfreed = type_f_frees_nothing }
