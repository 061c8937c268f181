use Rattle.lane_sim.proofs.DifferLemmas.{none_somewhere}
use Rattle.lane_sim.proofs.changing.is_somewhere.Goals as goal

pub returns : goal.returns
returns g c = record { none = none_somewhere c.args.lanes }
