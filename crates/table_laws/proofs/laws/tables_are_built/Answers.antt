use Rattle.table_laws.proofs.TableNets.{tables_are_built}
use Rattle.table_laws.proofs.laws.tables_are_built.Goals as goal

pub returns : goal.returns
returns c = record { built = tables_are_built }
