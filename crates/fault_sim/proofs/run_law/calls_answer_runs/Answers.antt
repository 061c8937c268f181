use Rattle.fault_sim.proofs.RunLemmas.{answer_runs}
use Rattle.fault_sim.proofs.run_law.calls_answer_runs.Goals as goal

pub returns : goal.returns
returns c = record { runs = answer_runs }
