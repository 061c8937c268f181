use Rattle.fault_lanes.proofs.RunLemmas.{are_the_run}
use Rattle.fault_lanes.proofs.run_law.steps_are_the_run.Goals as goal

pub returns : goal.returns
returns c = record { run = are_the_run }
