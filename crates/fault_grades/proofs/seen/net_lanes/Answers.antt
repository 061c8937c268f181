use Rattle.fault_secure.specs.Circuit.{bit}
use Rattle.fault_lanes.specs.Bench.{valuation_of}
use Rattle.fault_grades.proofs.SeenLemmas.{net_loaded}
use Rattle.fault_grades.proofs.seen.net_lanes.Goals as goal

pub returns : goal.returns
returns c = record {
  lanes = net_loaded c.lanes.result.now c.load.result (λ lane. bit (valuation_of c.args.bench.now lane) c.args.net.number) c.lanes.ensures.lanes c.load.ensures.lanes;
}
