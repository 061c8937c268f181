use Rattle.fault_secure.specs.Circuit.{bit}
use Rattle.fault_lanes.specs.Bench.{valuation_of}
use Rattle.fault_grades.proofs.SeenLemmas.{changed_lanes}
use Rattle.fault_grades.proofs.seen.changed_lanes.Goals as goal

pub returns : goal.returns
returns c = record {
  lanes = changed_lanes c.net_lanes.result c.constant.result c.differ.result (λ lane. bit (valuation_of c.args.bench.now lane) c.args.net.number) c.first_bit.result c.first_bit.ensures.bit
      c.net_lanes.ensures.lanes c.constant.ensures.lanes c.differ.ensures.lanes;
}
