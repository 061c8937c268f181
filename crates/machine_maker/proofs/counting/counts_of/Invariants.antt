-- What was counted over these first states.
use Rattle.std.proofs.Common.{◌≡◌, ◌≤◌, ◌*◌, ◌^◌}
use Rattle.machine_maker.specs.Counts.{ones_at, resets_at, sum_below}
use Rattle.machine_maker.proofs.counting.counts_of.Given as goal

abbrev pub invariant-loop-state : goal.invariant-loop-state
invariant-loop-state l = record {
  ones : l.counts.ones ≡ sum_below (λ state. sum_below (ones_at l.machine.table state) (2 ^ l.machine.table.inputs)) l.state;
  resets : l.counts.resets ≡ sum_below (λ state. sum_below (resets_at l.machine.table state) (2 ^ l.machine.table.inputs)) l.state;
  few_ones : l.counts.ones ≤ 67108864 * l.state;
  few_resets : l.counts.resets ≤ 1048576 * l.state;
}
