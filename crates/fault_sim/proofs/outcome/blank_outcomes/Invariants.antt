-- One outcome for each round.
use Rattle.std.proofs.Common.{◌≡◌, length}
use Rattle.fault_sim.proofs.outcome.blank_outcomes.Given as goal

abbrev pub invariant-loop : goal.invariant-loop
invariant-loop l = length l.list ≡ l.counter
