-- One bit for each round.
use Rattle.std.proofs.Common.{◌≡◌, length}
use Rattle.fault_grades.proofs.batch.blank_bits.Given as goal

abbrev pub invariant-loop : goal.invariant-loop
invariant-loop l = length l.bits ≡ l.counter
