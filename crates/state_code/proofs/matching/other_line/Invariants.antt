use Rattle.std.proofs.Common.{◌≡◌, ◌≤◌, ◌+◌, ◌*◌, ℕ, Bool, true, length, take, count_by}
use Rattle.gate_net.specs.Joined.{value_or, IsLineOrNone}
use Rattle.state_code.specs.Lines.{GrowsOverInputs, matching, may_answer, none_of}
use Rattle.state_code.proofs.matching.other_line.Given as goal

-- none of the rows so far matches
abbrev pub invariant-loop-row : goal.invariant-loop-row
invariant-loop-row l = record {
  value : (x s : ℕ → Bool) → value_or true l.gates x s l.made ≡ none_of (matching l.inputs l.state (take l.row-index l.rows) x);
  within : IsLineOrNone l.gates l.made;
  grown : GrowsOverInputs l.fn.gates l.gates;
  few : length l.gates.gates ≤ length l.fn.gates.gates + count_by (may_answer l.state) (take l.row-index l.rows) * (3 * l.inputs + 2);
}
