use Rattle.diagrams.proofs.CountLemmas.{rows_counted}
use Rattle.diagrams.proofs.laws.rows_are_the_cofactors.Goals as goal

pub returns : goal.returns
returns c = record { count = rows_counted }
