use Rattle.std.proofs.Common.{◌≡◌, ℕ, ◌+◌, ◌<◌, ◌≤◌, length}
use Rattle.gate_net.specs.Growth.{Grows}
use Rattle.gate_net.specs.NetLines.{AreLinesOf, IsLined, input_gates}
use Rattle.gate_net.proofs.net_reading.add_inputs.Given as goal

abbrev pub invariant-loop-i : goal.invariant-loop-i
invariant-loop-i l = record {
  within : l.i ≤ l.net.circuit.inputs;
  first : l.gates.gates ≡ input_gates l.i;
  grows : Grows l.fn.gates l.gates;
  few : length l.gates.gates ≤ length l.fn.gates.gates + l.i;
  follow : AreLinesOf l.net.circuit l.gates l.lines;
  sized : length l.lines ≡ length l.fn.lines;
  lined : (net : ℕ) → net < l.i → IsLined l.lines net;
}
