use Rattle.fault_sim.proofs.OutcomeLemmas.{outcome_call}
use Rattle.fault_sim.proofs.run_law.outcomes_are_calls.Goals as goal

pub returns : goal.returns
returns c = record { calls = outcome_call }
