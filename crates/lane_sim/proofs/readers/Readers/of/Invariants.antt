-- The places so far are among the readers.
use Rattle.std.proofs.Common.{◌≡◌, ◌*◌, ◌≤◌, length}
use Rattle.fault_secure.specs.Circuit.{nets}
use Rattle.lane_sim.specs.Readers.{AreChains, HaveReaders}
use Rattle.lane_sim.proofs.readers.Readers.of.Given as goal

abbrev pub invariant-loop-place : goal.invariant-loop-place
invariant-loop-place l = record {
  sized : length l.heads.items ≡ nets l.net.circuit;
  few : length l.list.items ≤ l.place * 64;
  chains : AreChains l.heads.items l.list.items l.place;
  readers : HaveReaders l.net.circuit l.heads.items l.list.items l.place;
}
