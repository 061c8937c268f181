-- As many counts.
use Rattle.std.proofs.Common.{◌≡◌, ◌-◌, ◌≤◌, length}
use Rattle.pla_read.proofs.spread.count_bits.Given as goal

abbrev pub invariant-loop-place : goal.invariant-loop-place
invariant-loop-place l = record {
  low : l.place ≤ l.places;
  counted : length l.counts ≡ l.places;
}

abbrev pub decreases-loop-place : goal.decreases-loop-place
decreases-loop-place l = l.places - l.place
