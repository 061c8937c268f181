-- The nets so far have the place among their readers.
use Rattle.std.proofs.Common.{◌≡◌, ℕ, ◌+◌, ◌<◌, length, slice_index}
use Rattle.fault_secure.specs.Circuit.{nets}
use Rattle.tsc_net.specs.PlanView.{net_numbers}
use Rattle.lane_sim.specs.Readers.{IsOnChain, AreChains, HaveReaders}
use Rattle.lane_sim.proofs.readers.add_place.Given as goal

abbrev pub invariant-loop-read : goal.invariant-loop-read
invariant-loop-read l = record {
  sized : length l.heads ≡ nets l.net.circuit;
  len : length l.list.items ≡ length l.initial.list.items + l.read-index;
  chains : AreChains l.heads l.list.items (l.place + 1);
  readers : HaveReaders l.net.circuit l.heads l.list.items l.place;
  added : (i : ℕ) → i < l.read-index → IsOnChain l.list.items l.place (slice_index l.heads (slice_index (net_numbers l.read-items) i));
}
