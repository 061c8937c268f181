-- Numbers before `low` are below, and those from `high` on are not.
use Rattle.std.proofs.Common.{ℕ, ◌-◌, ◌<◌, ◌≤◌, length}
use Rattle.refutations.specs.Store.{entry}
use Rattle.refutations.proofs.clauses.first_from.Given as goal

abbrev pub invariant-loop-low : goal.invariant-loop-low
invariant-loop-low l = record {
  order : l.low ≤ l.high;
  inside : l.high ≤ length l.entries;
  before : (k : ℕ) → k < l.low → (entry l.entries k).number < l.number;
  from : (k : ℕ) → l.high ≤ k → k < length l.entries → l.number ≤ (entry l.entries k).number;
}

abbrev pub decreases-loop-low : goal.decreases-loop-low
decreases-loop-low l = l.high - l.low
