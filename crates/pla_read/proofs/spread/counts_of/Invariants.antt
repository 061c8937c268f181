-- A count an output.
use Rattle.std.proofs.Common.{◌≡◌, length}
use Rattle.pla_read.proofs.spread.counts_of.Given as goal

abbrev pub invariant-loop-row : goal.invariant-loop-row
invariant-loop-row l = length l.counts.items ≡ l.outputs
