use Rattle.std.proofs.Common.{◌≡◌, ◌≤◌, ◌+◌, ◌*◌, ℕ, Bool, length, take}
use Rattle.tsc_bits.specs.Counting.{zeros}
use Rattle.gate_net.specs.Gates.{AreLines, line_values}
use Rattle.gate_net.specs.Growth.{Grows}
use Rattle.tsc_bits.specs.Thermometer.{thermo}
use Rattle.mofn_code.proofs.thresholds.thresholds.Given as goal

-- the row so far has the thresholds of the outputs so far
abbrev pub invariant-loop-output : goal.invariant-loop-output
invariant-loop-output l = record {
  made : (x s : ℕ → Bool) → line_values l.gates x s l.row.items ≡ thermo l.output-index (zeros (line_values l.fn.gates x s (take l.output-index l.outputs)));
  sized : length l.row.items ≡ l.output-index;
  past : l.output-index ≤ length l.outputs;
  within : AreLines l.gates l.row.items;
  grows : Grows l.fn.gates l.gates;
  few : length l.gates.gates ≤ length l.fn.gates.gates + l.output-index * l.output-index;
}
