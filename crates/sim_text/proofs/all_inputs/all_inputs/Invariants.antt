use Rattle.std.proofs.Common.{◌≡◌, ℕ, ◌<◌, [], length, get_or}
use Rattle.tsc_bits.specs.Bits.{bits_of}
use Rattle.sim_text.proofs.all_inputs.all_inputs.Given as goal

abbrev pub invariant-loop-number : goal.invariant-loop-number
invariant-loop-number l = record {
  sized : length l.inputs ≡ l.number;
  each : (i : ℕ) → i < l.number → get_or l.inputs i [] ≡ bits_of l.count i;
}
