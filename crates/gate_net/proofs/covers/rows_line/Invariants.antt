use Rattle.std.proofs.Common.{◌≡◌, ℕ, ◌+◌, ◌*◌, ◌≤◌, Bool, false, ◌||◌, drop, take, length}
use Rattle.std.specs.List.{sum_by}
use Rattle.tsc_cover.specs.Cover.{some_row_matches}
use Rattle.tsc_cover.specs.Row.{literals_of_each}
use Rattle.fault_secure.specs.Size.{row_literals}
use Rattle.gate_net.specs.Gates.{line_values}
use Rattle.gate_net.specs.Growth.{Grows}
use Rattle.gate_net.specs.Joined.{value_or, IsLineOrNone}
use Rattle.gate_net.proofs.covers.rows_line.Given as goal

-- the rows so far, and those that are left, are all
abbrev pub invariant-loop-row : goal.invariant-loop-row
invariant-loop-row l = record {
  grows : Grows l.fn.gates l.gates;
  within : IsLineOrNone l.gates l.made;
  few : length l.gates.gates ≤ length l.fn.gates.gates + 2 * (sum_by row_literals (literals_of_each l.width (take l.row-index l.rows)) + length (take l.row-index l.rows));
  value : (x s : ℕ → Bool) → (value_or false l.gates x s l.made || some_row_matches (literals_of_each l.width (drop l.row-index l.rows)) (line_values l.fn.gates x s l.pins))
      ≡ some_row_matches (literals_of_each l.width l.rows) (line_values l.fn.gates x s l.pins);
}
