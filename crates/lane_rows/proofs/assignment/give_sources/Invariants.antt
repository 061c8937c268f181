-- The watched ones of the inputs and latch outputs so far have got rows.
use Rattle.std.proofs.Common.{◌≡◌, ℕ, ◌≤◌, List, [], length}
use Rattle.fault_secure.specs.Circuit.{nets}
use Rattle.tsc_net.specs.Order.{fan_ins, evaluation_order}
use Rattle.lane_rows.specs.Needs.{AreNeededUntil}
use Rattle.lane_rows.specs.Along.{IsStarted}
use Rattle.lane_rows.proofs.assignment.give_sources.Given as goal

abbrev pub invariant-loop-source : goal.invariant-loop-source
invariant-loop-source l = record {
  rows : length l.table.rows.items ≡ nets l.net.circuit;
  free : l.table.free.items ≡ [];
  count : l.table.count ≤ l.source;
  started : (watched : List ℕ) → AreNeededUntil l.net.circuit (evaluation_order (fan_ins l.net.circuit)) watched l.ends
      → IsStarted l.net.circuit watched l.source l.table.rows.items l.table.held.items l.table.free.items l.table.count;
}
