use Rattle.std.proofs.Common.{◌≡◌, ◌≤◌, ◌<◌, ◌+◌, ◌*◌, ◌^◌, ℕ, Bool, length, take}
use Rattle.tsc_bits.specs.Counting.{zeros, counted}
use Rattle.gate_net.specs.Gates.{AreLines, line_values}
use Rattle.gate_net.specs.Growth.{Grows}
use Rattle.berger_code.proofs.counter.count_zeros.Given as goal

-- the bits so far count the zeros of the outputs so far, and are no more than the number needs
abbrev pub invariant-loop-output : goal.invariant-loop-output
invariant-loop-output l = record {
  counts : (x s : ℕ → Bool) → counted (line_values l.gates x s l.bits.items) ≡ zeros (line_values l.fn.gates x s (take l.output-index l.outputs));
  within : AreLines l.gates l.bits.items;
  grows : Grows l.fn.gates l.gates;
  number : l.number ≡ l.output-index + 1;
  past : l.output-index ≤ length l.outputs;
  room : l.number ≤ 2 ^ length l.bits.items;
  tight : 2 ^ length l.bits.items < 2 * l.number;
  few : length l.gates.gates ≤ length l.fn.gates.gates + 13 * l.output-index;
}
