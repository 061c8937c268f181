-- The nodes so far are taken into account.
use Rattle.tsc_net.specs.Order.{fan_ins, evaluation_order}
use Rattle.lane_rows.specs.Needs.{AreReadUntil}
use Rattle.lane_rows.proofs.needs.put_reads.Given as goal

abbrev pub invariant-loop-place : goal.invariant-loop-place
invariant-loop-place l = AreReadUntil l.net.circuit (evaluation_order (fan_ins l.net.circuit)) l.place l.ends
