-- The row is in the covers of the places so far.
use Rattle.std.proofs.Common.{◌≡◌, ◌-◌, ◌<◌, ◌≤◌, ◌&&◌, true, nat_lt}
use Rattle.tsc_bits.specs.Bits.{bits_of}
use Rattle.fault_secure.specs.Circuit.{bit}
use Rattle.pla_read.specs.Spread.{HaveRow}
use Rattle.pla_read.proofs.spread.push_at_bits.Given as goal

abbrev pub invariant-loop-place : goal.invariant-loop-place
invariant-loop-place l = record {
  low : l.place ≤ l.places;
  some : l.place < l.places → bit (bits_of l.places l.number) l.place ≡ true;
  have : HaveRow l.row (λ k. nat_lt k l.place && bit (bits_of l.places l.number) k) l.fn.covers l.covers;
}

abbrev pub decreases-loop-place : goal.decreases-loop-place
decreases-loop-place l = l.places - l.place
