use Rattle.std.proofs.Common.{◌≡◌, ◌≤◌, ◌+◌, ◌-◌, ℕ, Bool, true, ◌&&◌, length, drop}
use Rattle.tsc_bits.specs.Bits.{bits_of}
use Rattle.gate_net.specs.Gates.{line_values}
use Rattle.gate_net.specs.Joined.{value_or, IsLineOrNone}
use Rattle.state_code.specs.Lines.{GrowsWithout, foreign_to_decode, has_ones}
use Rattle.state_code.proofs.decoding.word_line.Given as goal

-- what was met so far, and what is left of the word, is the word
abbrev pub invariant-loop-place : goal.invariant-loop-place
invariant-loop-place l = record {
  value : (x s : ℕ → Bool) → (value_or true l.gates x s l.made && has_ones (bits_of (l.width - l.place) l.word) (drop l.place (line_values l.fn.gates x s l.bits)))
      ≡ has_ones (bits_of l.width l.word) (line_values l.fn.gates x s l.bits);
  within : IsLineOrNone l.gates l.made;
  grown : GrowsWithout foreign_to_decode l.fn.gates l.gates;
  few : length l.gates.gates ≤ length l.fn.gates.gates + l.place;
}
