use Rattle.table_refinement.proofs.UnfreedTables.{unfreed_tables_are_networks}
use Rattle.table_refinement.proofs.unfreed.unfreed_tables_are_networks.Goals as goal

pub returns : goal.returns
returns c = record { alike = unfreed_tables_are_networks }
