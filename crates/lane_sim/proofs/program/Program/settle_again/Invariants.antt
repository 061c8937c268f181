-- The places so far have settled under the new fault.
use Rattle.std.proofs.Common.{◌≡◌, ◌*◌, ◌-◌, ◌≤◌, length}
use Rattle.tsc_net.specs.Fault.{stuck_at_or_none}
use Rattle.lane_sim.specs.Again.{IsWalked}
use Rattle.lane_sim.proofs.program.Program.settle_again.Given as goal

abbrev pub invariant-loop-taken : goal.invariant-loop-taken
invariant-loop-taken l = record {
  within : l.place ≤ length l.self.circuit.nodes;
  rows : length l.block ≡ l.self.rows.count * 16;
  room : length l.marked.words.items ≡ length l.fn.marked.words.items;
  walked : IsWalked l.self (stuck_at_or_none l.fn.old) (stuck_at_or_none l.fault) l.points l.block l.marked l.place;
}

abbrev pub decreases-loop-taken : goal.decreases-loop-taken
decreases-loop-taken l = length l.self.circuit.nodes - l.place
