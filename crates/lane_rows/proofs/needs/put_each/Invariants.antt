-- The nets so far have the number, the others what they had.
use Rattle.std.proofs.Common.{◌≡◌, ℕ, ◌<◌, length, take, slice_index, if◌then◌else◌}
use Rattle.tsc_net.specs.Order.{has_place}
use Rattle.tsc_net.specs.PlanView.{net_numbers}
use Rattle.lane_rows.proofs.needs.put_each.Given as goal

abbrev pub invariant-loop-net : goal.invariant-loop-net
invariant-loop-net l =
    (net : ℕ) → net < length l.initial.numbers
    → slice_index l.numbers net ≡ (if has_place (net_numbers (take l.net-index l.nets)) net then l.number else slice_index l.initial.numbers net)
