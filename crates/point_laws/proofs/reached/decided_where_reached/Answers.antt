use Rattle.point_laws.proofs.WhereReached.{decided_where_reached}
use Rattle.point_laws.proofs.reached.decided_where_reached.Goals as goal

pub returns : goal.returns
returns c = record { decided = decided_where_reached }
