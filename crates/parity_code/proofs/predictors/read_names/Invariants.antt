use Rattle.std.proofs.Common.{◌≡◌, map, take}
use Rattle.tsc_net.specs.PlanView.{net_numbers}
use Rattle.parity_code.specs.PredictorSteps.{name_at}
use Rattle.parity_code.proofs.predictors.read_names.Given as goal

abbrev pub invariant-loop-read : goal.invariant-loop-read
invariant-loop-read l = l.reads ≡ map (name_at l.names) (net_numbers (take l.read-index l.read-items))
