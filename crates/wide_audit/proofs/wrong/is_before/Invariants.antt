use Rattle.std.proofs.Common.{◌≡◌, ℕ, ◌<◌}
use Rattle.fault_secure.specs.Circuit.{bit}
use Rattle.wide_audit.proofs.wrong.is_before.Given as goal

abbrev pub invariant-loop-i : goal.invariant-loop-i
invariant-loop-i l = (k : ℕ) → k < l.i → bit l.first k ≡ bit l.second k
