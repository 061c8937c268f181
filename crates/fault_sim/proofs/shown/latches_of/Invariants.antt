use Rattle.std.proofs.Common.{◌≡◌, ℕ, ◌<◌, length, map, take, get_or}
use Rattle.fault_secure.specs.Circuit.{latch_net}
use Rattle.tsc_net.specs.declared.netlist.LatchView.{LatchView}
use Rattle.fault_sim.specs.Shown.{latch_as}
use Rattle.fault_sim.proofs.shown.latches_of.Given as goal

abbrev pub invariant-loop-place : goal.invariant-loop-place
invariant-loop-place l = record {
  latches : map latch_as l.latches.items ≡ take l.place l.net.circuit.latches;
  outs : (k : ℕ) (d : LatchView) → k < length l.latches.items → (get_or l.latches.items k d).out.number ≡ latch_net l.net.circuit k;
}
