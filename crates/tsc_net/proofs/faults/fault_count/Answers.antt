-- One driver after the other.
use Rattle.std.proofs.Common.{◌<◌, ◌≤◌, arith}
use Rattle.fault_secure.specs.Circuit.{nets}
use Rattle.tsc_net.proofs.FaultNumbers.{length-left_from}
use Rattle.tsc_net.proofs.faults.fault_count.Goals as goal

pub loop-at-preserved : goal.loop-at-preserved
loop-at-preserved c =
    let C = c.args.net.now.circuit in
    let at = c.loop-at.at in
    let not_input : C.inputs ≤ at = omega arith in
    let is_net : at < nets C = omega arith in
    record {
      counted = omega (arith, length-left_from C at not_input is_net, c.loop-at.invariant.counted, c.pins_of.ensures.pins);
      small = omega arith;
    }
