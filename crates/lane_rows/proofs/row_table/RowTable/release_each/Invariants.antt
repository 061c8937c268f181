-- The nets so far are released.
use Rattle.std.proofs.Common.{◌≡◌, ℕ, ◌&&◌, ◌||◌, not, nat_lt, Bool, take, slice_index}
use Rattle.tsc_net.specs.Order.{has_place}
use Rattle.tsc_net.specs.PlanView.{net_numbers}
use Rattle.lane_rows.specs.Holding.{IsHolding}
use Rattle.lane_rows.proofs.row_table.RowTable.release_each.Given as goal

abbrev pub invariant-loop-net : goal.invariant-loop-net
invariant-loop-net l = record {
  rows : l.self.rows ≡ l.initial.self.rows;
  count : l.self.count ≡ l.initial.self.count;
  holding : (live : ℕ → Bool) → IsHolding l.initial.self.rows.items l.initial.self.held.items l.initial.self.free.items l.initial.self.count live
      → IsHolding l.self.rows.items l.self.held.items l.self.free.items l.self.count
      (λ other. live other && (not (has_place (net_numbers (take l.net-index l.nets)) other) || nat_lt l.place (slice_index l.ends other)));
}
