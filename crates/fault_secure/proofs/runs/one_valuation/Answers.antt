use Rattle.fault_secure.proofs.OneRun.{one_valuation}
use Rattle.fault_secure.proofs.runs.one_valuation.Goals as goal

pub returns : goal.returns
returns c = record { one = one_valuation }
