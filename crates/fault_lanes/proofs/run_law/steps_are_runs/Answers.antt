use Rattle.fault_lanes.proofs.RunLemmas.{are_runs}
use Rattle.fault_lanes.proofs.run_law.steps_are_runs.Goals as goal

pub returns : goal.returns
returns c = record { runs = are_runs }
