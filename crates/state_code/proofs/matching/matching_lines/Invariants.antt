use Rattle.std.proofs.Common.{◌≡◌, ◌≤◌, ◌+◌, ◌*◌, ℕ, Bool, length, take, count_by}
use Rattle.gate_net.specs.Gates.{AreLines, line_values}
use Rattle.state_code.specs.Lines.{GrowsOverInputs, matching, may_answer}
use Rattle.state_code.proofs.matching.matching_lines.Given as goal

-- the lines of the rows so far
abbrev pub invariant-loop-row : goal.invariant-loop-row
invariant-loop-row l = record {
  values : (x s : ℕ → Bool) → line_values l.gates x s l.lines ≡ matching l.inputs l.state (take l.row-index l.rows) x;
  within : AreLines l.gates l.lines;
  count : length l.lines ≡ count_by (may_answer l.state) (take l.row-index l.rows);
  grown : GrowsOverInputs l.fn.gates l.gates;
  few : length l.gates.gates ≤ length l.fn.gates.gates + count_by (may_answer l.state) (take l.row-index l.rows) * (3 * l.inputs + 1);
}
