use Rattle.std.proofs.Common.{◌≡◌, ◌≤◌, ◌+◌, ◌*◌, ℕ, Bool, map, length, take}
use Rattle.tsc_bits.specs.Bits.{bits_of}
use Rattle.gate_net.specs.Gates.{AreLines, line_values}
use Rattle.state_code.specs.Lines.{GrowsWithout, foreign_to_decode, has_ones}
use Rattle.state_code.proofs.decoding.word_lines.Given as goal

-- the lines of the words so far
abbrev pub invariant-loop-word : goal.invariant-loop-word
invariant-loop-word l = record {
  values : (x s : ℕ → Bool) → line_values l.gates x s l.lines ≡ map (λ word. has_ones (bits_of (length l.bits) word) (line_values l.fn.gates x s l.bits)) (take l.word-index l.words);
  within : AreLines l.gates l.lines;
  count : length l.lines ≡ l.word-index;
  grown : GrowsWithout foreign_to_decode l.fn.gates l.gates;
  few : length l.gates.gates ≤ length l.fn.gates.gates + l.word-index * (length l.bits + 1);
}
