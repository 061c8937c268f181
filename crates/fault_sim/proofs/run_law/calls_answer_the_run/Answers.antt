use Rattle.fault_sim.proofs.RunLemmas.{answer_the_run}
use Rattle.fault_sim.proofs.run_law.calls_answer_the_run.Goals as goal

pub returns : goal.returns
returns c = record { run = answer_the_run }
