use Rattle.fault_secure.proofs.OneRun.{one_run}
use Rattle.fault_secure.proofs.runs.one_run.Goals as goal

pub returns : goal.returns
returns c = record { one = one_run }
