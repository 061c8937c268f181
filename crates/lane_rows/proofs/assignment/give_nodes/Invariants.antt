-- The nodes at the places so far have got their rows.
use Rattle.std.proofs.Common.{◌≡◌, ℕ, ◌+◌, ◌≤◌, List, length}
use Rattle.fault_secure.specs.Circuit.{nets}
use Rattle.tsc_net.specs.Order.{fan_ins, evaluation_order}
use Rattle.lane_rows.specs.Alive.{source_count}
use Rattle.lane_rows.specs.Needs.{AreNeededUntil}
use Rattle.lane_rows.specs.Along.{IsAlong}
use Rattle.lane_rows.proofs.assignment.give_nodes.Given as goal

abbrev pub invariant-loop-place : goal.invariant-loop-place
invariant-loop-place l = record {
  rows : length l.table.rows.items ≡ nets l.net.circuit;
  count : l.table.count ≤ source_count l.net.circuit + l.place;
  along : (watched : List ℕ) → AreNeededUntil l.net.circuit (evaluation_order (fan_ins l.net.circuit)) watched l.ends
      → IsAlong l.net.circuit (evaluation_order (fan_ins l.net.circuit)) watched 0 l.initial.table.rows.items l.initial.table.held.items l.initial.table.free.items l.initial.table.count
      → IsAlong l.net.circuit (evaluation_order (fan_ins l.net.circuit)) watched l.place l.table.rows.items l.table.held.items l.table.free.items l.table.count;
}
