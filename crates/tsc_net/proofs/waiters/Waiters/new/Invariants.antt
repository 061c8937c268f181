-- As many lists as were counted, each of them empty.
use Rattle.std.proofs.Common.{length, ◌≡◌, [], All}
use Rattle.tsc_net.proofs.waiters.Waiters.new.Given as goal

abbrev pub invariant-loop : goal.invariant-loop
invariant-loop l = (length l.lists.items ≡ l.counter) × All (λ list. list.items ≡ []) l.lists.items
