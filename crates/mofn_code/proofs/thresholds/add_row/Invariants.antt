use Rattle.std.proofs.Common.{◌≡◌, ◌≤◌, ◌+◌, ◌*◌, ◌++◌, ℕ, Bool, length, drop}
use Rattle.gate_net.specs.Gates.{IsLine, AreLines, line_value, line_values}
use Rattle.gate_net.specs.Growth.{Grows}
use Rattle.tsc_bits.specs.Thermometer.{row_with}
use Rattle.mofn_code.proofs.thresholds.add_row.Given as goal

-- the thresholds made so far, and those that what is left gives, are the row
abbrev pub invariant-loop-threshold : goal.invariant-loop-threshold
invariant-loop-threshold l = record {
  made : (x s : ℕ → Bool) → line_values l.gates x s l.next.items ++ row_with (line_value l.gates x s l.carried) (line_value l.fn.gates x s l.more) (drop l.threshold-index (line_values l.fn.gates x s l.row)) ≡ row_with (line_value l.fn.gates x s l.more) (line_value l.fn.gates x s l.more) (line_values l.fn.gates x s l.row);
  within : AreLines l.gates l.next.items;
  carried : IsLine l.gates l.carried;
  grows : Grows l.fn.gates l.gates;
  few : length l.gates.gates ≤ length l.fn.gates.gates + 2 * l.threshold-index;
}
