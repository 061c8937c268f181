use Rattle.std.proofs.Common.{◌≡◌, ◌≤◌}
use Rattle.tsc_bits.specs.Bits.{bits_of}
use Rattle.tsc_bits.specs.Counting.{ones}
use Rattle.state_code.proofs.words.weight.Given as goal

-- the ones among the bits so far
abbrev pub invariant-loop-place : goal.invariant-loop-place
invariant-loop-place l = record {
  made : l.count ≡ ones (bits_of l.place l.word);
  few : l.count ≤ l.place;
}
