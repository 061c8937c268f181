use Rattle.std.proofs.Common.{◌≡◌, ◌≤◌, ◌+◌, ◌*◌, ◌-◌, ℕ, Bool, false, not, ◌&&◌, length}
use Rattle.tsc_cover.specs.Cover.{literals}
use Rattle.tsc_cover.specs.Row.{literals_of}
use Rattle.gate_net.specs.Joined.{value_or, IsLineOrNone}
use Rattle.state_code.specs.Lines.{GrowsOverInputs, passes}
use Rattle.state_code.proofs.matching.failing_line.Given as goal

-- where nothing failed so far, and what is left of the row passes, the row passes
abbrev pub invariant-loop-input : goal.invariant-loop-input
invariant-loop-input l = record {
  value : (x s : ℕ → Bool) → (not (value_or false l.gates x s l.made) && passes l.input (literals (l.inputs - l.input) l.row.care l.row.value) x) ≡ passes 0 (literals_of l.inputs l.row) x;
  within : IsLineOrNone l.gates l.made;
  grown : GrowsOverInputs l.fn.gates l.gates;
  few : length l.gates.gates ≤ length l.fn.gates.gates + 3 * l.input;
}
