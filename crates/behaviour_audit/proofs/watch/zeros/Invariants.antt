use Rattle.std.proofs.Common.{◌≡◌, length}
use Rattle.behaviour_audit.proofs.watch.zeros.Given as goal

abbrev pub invariant-loop : goal.invariant-loop
invariant-loop l = length l.bits ≡ l.counter
