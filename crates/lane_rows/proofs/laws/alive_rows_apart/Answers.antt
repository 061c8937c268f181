use Rattle.lane_rows.proofs.AliveLemmas.{alive_apart}
use Rattle.lane_rows.proofs.laws.alive_rows_apart.Goals as goal

pub returns : goal.returns
returns c = record { apart = alive_apart }
