use Rattle.std.proofs.Common.{◌≡◌, ◌≤◌, ◌+◌, ◌*◌, ℕ, Bool, false, ◌||◌, length, drop, take, count_by, None}
use Rattle.gate_net.specs.Gates.{line_values}
use Rattle.gate_net.specs.Joined.{value_or, IsLineOrNone}
use Rattle.state_code.specs.Lines.{GrowsWithout, foreign_to_select, isnt_zero}
use Rattle.tsc_bits.specs.Counting.{some_both}
use Rattle.state_code.proofs.selecting.select.Given as goal

-- the places so far, and those that are left, are all
abbrev pub invariant-loop-place : goal.invariant-loop-place
invariant-loop-place l = record {
  value : (x s : ℕ → Bool) → (value_or false l.gates x s l.made || some_both (drop l.place (line_values l.fn.gates x s l.decoded)) (drop l.place (line_values l.fn.gates x s l.per_state)))
      ≡ some_both (line_values l.fn.gates x s l.decoded) (line_values l.fn.gates x s l.per_state);
  within : IsLineOrNone l.gates l.made;
  none : l.made ≡ None → count_by (isnt_zero l.fn.gates) (take l.place l.per_state) ≡ 0;
  grown : GrowsWithout foreign_to_select l.fn.gates l.gates;
  few : length l.gates.gates ≤ length l.fn.gates.gates + 2 * count_by (isnt_zero l.fn.gates) (take l.place l.per_state);
}
