use Rattle.fault_lanes.specs.BenchView.{lanes_as}
use Rattle.fault_lanes.proofs.BenchLemmas.{net_shown}
use Rattle.fault_lanes.proofs.bench.FaultLanes.lanes.Goals as goal

pub returns : goal.returns
returns c = record {
  lanes = net_shown (lanes_as c.self.inside) c.args.self.now c.deref.result.now c.args.net.number c.self.view_is c.deref.ensures.value c.self.invariant.nets c.requires.net;
}
