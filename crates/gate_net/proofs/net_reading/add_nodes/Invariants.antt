use Rattle.std.proofs.Common.{◌≡◌, ◌+◌, ◌≤◌, length, take}
use Rattle.std.specs.List.{sum_by}
use Rattle.gate_net.specs.Growth.{Grows}
use Rattle.gate_net.specs.NetLines.{AreLinesOf, AreLinedTo}
use Rattle.gate_net.proofs.Sizes.{gates_at}
use Rattle.gate_net.proofs.net_reading.add_nodes.Given as goal

abbrev pub invariant-loop-place : goal.invariant-loop-place
invariant-loop-place l = record {
  grows : Grows l.fn.gates l.gates;
  few : length l.gates.gates ≤ length l.fn.gates.gates + sum_by (gates_at l.net.circuit) (take l.place-index l.place-items);
  follow : AreLinesOf l.net.circuit l.gates l.lines;
  sized : length l.lines ≡ length l.fn.lines;
  lined : AreLinedTo l.net.circuit l.place-items l.place-index l.lines;
}
