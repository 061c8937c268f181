use Rattle.std.proofs.Common.{◌≡◌, ◌≤◌, ◌+◌, ◌*◌, ◌++◌, ℕ, Bool, length, drop}
use Rattle.gate_net.specs.Gates.{IsLine, AreLines, line_value, line_values}
use Rattle.gate_net.specs.Growth.{Grows}
use Rattle.tsc_bits.specs.Counting.{add_carry}
use Rattle.berger_code.proofs.counter.add_carry.Given as goal

-- the sums made so far, and what the carry and the bits that are left give, are the sum
abbrev pub invariant-loop-bit : goal.invariant-loop-bit
invariant-loop-bit l = record {
  made : (x s : ℕ → Bool) → line_values l.gates x s l.next.items ++ add_carry l.longer (line_value l.gates x s l.carried) (drop l.bit-index (line_values l.fn.gates x s l.bits)) ≡ add_carry l.longer (line_value l.fn.gates x s l.fn.carry) (line_values l.fn.gates x s l.bits);
  within : AreLines l.gates l.next.items;
  carried : IsLine l.gates l.carried;
  grows : Grows l.fn.gates l.gates;
  few : length l.gates.gates ≤ length l.fn.gates.gates + 2 * l.bit-index;
}
