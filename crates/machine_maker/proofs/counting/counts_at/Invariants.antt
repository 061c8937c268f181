-- What was counted over these first inputs.
use Rattle.std.proofs.Common.{◌≡◌, ◌≤◌, ◌*◌}
use Rattle.machine_maker.specs.Counts.{ones_at, resets_at, sum_below}
use Rattle.machine_maker.proofs.counting.counts_at.Given as goal

abbrev pub invariant-loop-input : goal.invariant-loop-input
invariant-loop-input l = record {
  ones : l.counts.ones ≡ sum_below (ones_at l.machine.table l.state) l.input;
  resets : l.counts.resets ≡ sum_below (resets_at l.machine.table l.state) l.input;
  few_ones : l.counts.ones ≤ 64 * l.input;
  few_resets : l.counts.resets ≤ l.input;
}
