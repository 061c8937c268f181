-- Nothing is waited for at the pins that were passed.
use Rattle.std.proofs.Common.{length, ◌-◌, ◌≡◌, ℕ, ◌<◌, ◌≤◌, true, slice_index}
use Rattle.tsc_net.specs.PlanView.{net_numbers}
use Rattle.tsc_net.specs.inner.OrderSearch.{is_passed}
use Rattle.tsc_net.proofs.order.first_unlisted.Given as goal

abbrev pub invariant-loop-at : goal.invariant-loop-at
invariant-loop-at l = record {
  after : l.from ≤ l.at;
  passed : (pin : ℕ) → l.from ≤ pin → pin < l.at → pin < length l.reads → is_passed l.first_node l.is_listed (slice_index (net_numbers l.reads) pin) ≡ true;
}

abbrev pub decreases-loop-at : goal.decreases-loop-at
decreases-loop-at l = length l.reads - l.at
