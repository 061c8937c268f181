use Rattle.std.proofs.Common.{◌≡◌, ℕ, ◌+◌, ◌*◌, ◌-◌, ◌≤◌, Bool, true, ◌&&◌, drop, length}
use Rattle.tsc_cover.specs.Cover.{literals, row_matches}
use Rattle.tsc_cover.specs.Row.{literals_of}
use Rattle.fault_secure.specs.Size.{row_literals}
use Rattle.gate_net.specs.Gates.{line_values}
use Rattle.gate_net.specs.Growth.{Grows}
use Rattle.gate_net.specs.Joined.{value_or, IsLineOrNone}
use Rattle.gate_net.proofs.covers.row_line.Given as goal

-- what was met so far, and what is left of the row, is the row
abbrev pub invariant-loop-pin : goal.invariant-loop-pin
invariant-loop-pin l = record {
  grows : Grows l.fn.gates l.gates;
  within : IsLineOrNone l.gates l.made;
  few : length l.gates.gates + 2 * row_literals (literals (l.width - l.pin) l.row.care l.row.value) ≤ length l.fn.gates.gates + 2 * row_literals (literals_of l.width l.row);
  value : (x s : ℕ → Bool) → (value_or true l.gates x s l.made && row_matches (literals (l.width - l.pin) l.row.care l.row.value) (drop l.pin (line_values l.fn.gates x s l.pins)))
      ≡ row_matches (literals_of l.width l.row) (line_values l.fn.gates x s l.pins);
}
