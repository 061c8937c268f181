use Rattle.std.proofs.Common.{◌≡◌, length}
use Rattle.settle_bench.proofs.drawing.drawn_bits.Given as goal

abbrev pub invariant-loop-input : goal.invariant-loop-input
invariant-loop-input l = length l.bits ≡ l.input
