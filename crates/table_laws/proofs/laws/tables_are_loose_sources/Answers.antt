use Rattle.table_laws.proofs.TableNets.{tables_are_loose_sources}
use Rattle.table_laws.proofs.laws.tables_are_loose_sources.Goals as goal

pub returns : goal.returns
returns c = record { loose = tables_are_loose_sources }
