use Rattle.table_refinement.proofs.TextNetworks.{texts_are_networks}
use Rattle.table_refinement.proofs.refined.texts_are_networks_of_their_tables.Goals as goal

pub returns : goal.returns
returns c = record { networks = texts_are_networks }
