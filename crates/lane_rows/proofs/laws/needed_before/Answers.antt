use Rattle.lane_rows.proofs.NeedsLemmas.{needed_before}
use Rattle.lane_rows.proofs.laws.needed_before.Goals as goal

pub returns : goal.returns
returns c = record { before = needed_before }
