use Rattle.std.proofs.Common.{◌≡◌, ◌≤◌, ◌+◌, ℕ, Bool, length}
use Rattle.gate_net.specs.Gates.{AreLines, line_values}
use Rattle.state_code.specs.Lines.{GrowsWithout, foreign_to_decode, first_bits}
use Rattle.state_code.proofs.decoding.state_lines.Given as goal

-- the lines of the state bits so far
abbrev pub invariant-loop-i : goal.invariant-loop-i
invariant-loop-i l = record {
  values : (x s : ℕ → Bool) → line_values l.gates x s l.lines ≡ first_bits l.i s;
  within : AreLines l.gates l.lines;
  count : length l.lines ≡ l.i;
  grown : GrowsWithout foreign_to_decode l.fn.gates l.gates;
  few : length l.gates.gates ≤ length l.fn.gates.gates + l.i;
}
