-- All that were passed are listed.
use Rattle.std.proofs.Common.{length, ◌-◌, ◌≡◌, ℕ, ◌<◌, ◌≤◌, true}
use Rattle.fault_secure.specs.Circuit.{bit}
use Rattle.tsc_net.proofs.ring.first_unmarked.Given as goal

abbrev pub invariant-loop-at : goal.invariant-loop-at
invariant-loop-at l = (l.at ≤ length l.is_listed) × ((j : ℕ) → j < l.at → bit l.is_listed j ≡ true)

abbrev pub decreases-loop-at : goal.decreases-loop-at
decreases-loop-at l = length l.is_listed - l.at
