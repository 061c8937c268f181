use Rattle.diagrams.proofs.CountLemmas.{rows_short}
use Rattle.diagrams.proofs.laws.short_of_rows.Goals as goal

pub returns : goal.returns
returns c = record { more = rows_short }
