use Rattle.std.proofs.Common.{◌≡◌, arith}
use Rattle.lane_sim.specs.Points.{source_bit}
use Rattle.lane_sim.proofs.FirstLemmas.{first_same}
use Rattle.unheard_cells.specs.There.{IsFalseAlarmThere}
use Rattle.unheard_cells.proofs.LaneLemmas.{false_alarm_there, there_false_alarm}
use Rattle.unheard_cells.proofs.batches.first_false_alarm.Goals as goal

pub first_agreeing-requires-clause-room : goal.first_agreeing-requires-clause-room
first_agreeing-requires-clause-room c = omega (arith, c.requires.settled.room)

pub returns : goal.returns
returns c =
    let N = c.args.net.now.circuit in
    let P = c.args.plan.now in
    let points = c.args.trial.now.points in
    let right = c.args.right.now in
    let many = c.args.many in
    let acyclic = c.order-order.ensures.acyclic in
    record {
      first = first_same (λ p. source_bit right 0 p ≡ source_bit right 1 p) (IsFalseAlarmThere N P points) 0 many c.first_agreeing.result
          (λ p below same. false_alarm_there N P points acyclic p (omega (arith, below, c.requires.many)) right c.requires.settled.lanes same)
          (λ p below at. there_false_alarm N P points acyclic p (omega (arith, below, c.requires.many)) right c.requires.settled.lanes at) c.first_agreeing.ensures.first;
    }
