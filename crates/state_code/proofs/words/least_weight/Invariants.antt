use Rattle.std.proofs.Common.{ℕ, ◌*◌, ◌<◌, ◌≤◌}
use Rattle.state_code.specs.Words.{binomial}
use Rattle.state_code.proofs.words.least_weight.Given as goal

-- the weights so far give too few words
abbrev pub invariant-loop-m : goal.invariant-loop-m
invariant-loop-m l = (k : ℕ) → 1 ≤ k → k < l.m → binomial (2 * k) k < l.states
